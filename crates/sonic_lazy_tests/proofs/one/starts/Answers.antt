use Rattle.sonic_lazy_tests.proofs.one.starts.Goals as goal
use Rattle.std.proofs.Common.{◌∙◌, sym}
use Rattle.sonic_lazy.proofs.UncheckedLemmas.{lookup_starts}

pub returns : goal.returns
returns c = λ e. lookup_starts c.get_from_slice.result c.get_from_slice.ensures.lookup (sym c.is_ok.ensures.value ∙ e)
