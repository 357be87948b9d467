use Rattle.std.proofs.Common.{◌≡◌, ◌∙◌, ap, Some, option_map}
use Rattle.sonic_error.specs.declared.json_type.JsonType.TheVariants.{Array as AnArray}
use Rattle.sonic_lazy.specs.Scalars.{type_of}
use Rattle.sonic_owned.specs.Forms.{scalar_of_form}
use Rattle.sonic_owned.specs.Seen.{view_form}
use Rattle.sonic_patch.proofs.ResolveLemmas.{array_node}
use Rattle.sonic_patch.proofs.resolve.node_in.Goals as goal
use Rattle.sonic_patch.specs.Resolution.{index_of}
use Rattle.sonic_text.specs.Paths.{index}

pub returns-in-Some : goal.returns-in-Some
returns-in-Some c = λ v means.
    let is : Some c.in-Some.i ≡ index_of c.args.token.now = rw c.as_str-in-Array.ensures at c.in-Some.ensures in
    let type : type_of (scalar_of_form (view_form c.args.part.now)) ≡ AnArray = cc (c.get_type.ensures, c.in-Array.is) in
    ap (option_map index) is ∙ array_node c.args.token.now type v means
