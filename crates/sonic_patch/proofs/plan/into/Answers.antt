use Rattle.std.proofs.Common.{◌≡◌, refl}
use Rattle.sonic_error.specs.declared.json_type.JsonType.TheVariants.{Object as AnObject, Array as AnArray}
use Rattle.sonic_lazy.specs.Scalars.{type_of}
use Rattle.sonic_owned.specs.Forms.{scalar_of_form}
use Rattle.sonic_owned.specs.Seen.{view_form}
use Rattle.sonic_owned.specs.Views.{form}
use Rattle.sonic_patch.proofs.PlanLemmas.{into_object_meant, into_array_meant, into_other}
use Rattle.sonic_patch.proofs.plan.into.Goals as goal
use Rattle.sonic_pointer.specs.Nodes.{path_of}

pub returns-in-Object : goal.returns-in-Object
returns-in-Object c =
    let type : type_of (scalar_of_form (view_form c.args.led.part)) ≡ AnObject = cc (c.get_type.ensures, c.in-Object.is) in
    into_object_meant (path_of c.args.led.nodes.items) (form c.args.new) c.args.last.now type c.in_ok-into_object-in-Object.ensures

pub returns-in-Array : goal.returns-in-Array
returns-in-Array c =
    let type : type_of (scalar_of_form (view_form c.args.led.part)) ≡ AnArray = cc (c.get_type.ensures, c.in-Array.is) in
    into_array_meant (path_of c.args.led.nodes.items) (form c.args.new) c.args.last.now type c.into_array.ensures

pub returns : goal.returns
returns c = λ u means.
    let object : ¬ (type_of (scalar_of_form (view_form c.args.led.part)) ≡ AnObject) =
    λ e. (let is : c.get_type.result ≡ AnObject = cc (c.get_type.ensures, e) in absurd (c.in_default.not-Object is)) in
    let array : ¬ (type_of (scalar_of_form (view_form c.args.led.part)) ≡ AnArray) =
    λ e. (let is : c.get_type.result ≡ AnArray = cc (c.get_type.ensures, e) in absurd (c.in_default.not-Array is)) in
    rw (into_other (form c.args.new) c.args.last.now object array u means) refl
