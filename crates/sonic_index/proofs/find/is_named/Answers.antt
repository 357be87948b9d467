use Rattle.sonic_text.proofs.Strings.{string_never_both}
use Rattle.sonic_index.proofs.PathLemmas.{key_label}
use Rattle.sonic_index.proofs.find.is_named.Goals as goal

pub unreachable-requires : goal.unreachable-requires
unreachable-requires c = string_never_both c.requires.2 c.in-Err.ensures.err

pub returns : goal.returns
returns c = key_label c.in-Ok.ensures.ok.3 c.same_key.ensures
