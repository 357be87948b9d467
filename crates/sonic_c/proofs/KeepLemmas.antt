-- What keeps the paths of lines comes to what a call for them says.
use Rattle.std.proofs.Common.{◌≡◌, ◌≤◌, inl, inr, refl, ℕ, List, arith}
use Rattle.sonic_pointer.specs.declared.rule.KeyRule.{KeyRule}
use Rattle.sonic_pointer.specs.declared.rule.KeyRule.TheVariants.{First, Last, Refuse}
use Rattle.sonic_text.specs.Paths.{Path}
use Rattle.sonic_c.proofs.ManyLemmas.{never_bad}
use Rattle.sonic_c.specs.Internal.Lists.{KeepsPaths, kept_all, kept_none}
use Rattle.sonic_c.specs.Internal.Texts.{OrOutOfMemory, refuses, ran_out}
use Rattle.sonic_c.specs.Kept.{rule_number}
use Rattle.sonic_c.specs.Lists.{IsPathsCall}
use Rattle.sonic_c.specs.Rows.{AreNoPaths}
use Rattle.sonic_c.specs.Told.{Say}
use Rattle.sonic_c.specs.declared.fault.Fault.{Fault}
use Rattle.sonic_c.specs.declared.paths.Paths.{Paths}

-- a rule has one of three numbers
pub rule_low : {number : ℕ} (rule : KeyRule) → rule_number rule ≡ number → number ≤ 2
rule_low First e = omega (arith, e)
rule_low Last e = omega (arith, e)
rule_low Refuse e = omega (arith, e)

module _ {lines : List ℕ} {number : ℕ} {paths : Paths} {before after : Fault} {status : ℕ} where
  -- lines that say no paths are refused
  pub lines_refused : number ≤ 2 → OrOutOfMemory (AreNoPaths lines) before after status
      → IsPathsCall lines number (record { paths = paths; error = before }) (record { paths = paths; error = after }) status
  lines_refused low (refuses x) = let is = x.says in record {
    ok = λ e. absurd cc;
    count = λ e. absurd cc;
    bad_lines = λ e. (x.number, x.bad, x.told);
    bad_rule = λ e. absurd cc;
    rule_first = λ high. absurd (omega (arith, high, low));
    no_other = inr (inl is);
    paths_kept = λ e. refl;
    error_kept = λ other. absurd (other is);
    complete = λ p says named. absurd (never_bad says x.bad);
  }
  lines_refused low (ran_out is same) = record {
    ok = λ e. absurd cc;
    count = λ e. absurd cc;
    bad_lines = λ e. absurd cc;
    bad_rule = λ e. absurd cc;
    rule_first = λ high. absurd (omega (arith, high, low));
    no_other = inr (inr (inr is));
    paths_kept = λ e. refl;
    error_kept = λ e. same;
    complete = λ p says named. inr is;
  }

module _ {lines : List ℕ} {number : ℕ} {rule : KeyRule} {tree : List Path} {before after : Paths} {error : Fault} {status : ℕ} where
  -- and paths that are kept are told so
  pub paths_told : Say lines tree → rule_number rule ≡ number → KeepsPaths (record { rule = rule; paths = tree }) before after status
      → IsPathsCall lines number (record { paths = before; error = error }) (record { paths = after; error = error }) status
  paths_told says numbered (kept_all is list count) = record {
    ok = λ e. record { says = rw list says; rule = rw list numbered };
    count = λ e. rw list count;
    bad_lines = λ e. absurd cc;
    bad_rule = λ e. absurd cc;
    rule_first = λ high. absurd (omega (arith, high, rule_low rule numbered));
    no_other = inl is;
    paths_kept = λ other. absurd (other is);
    error_kept = λ e. refl;
    complete = λ p own low. inl is;
  }
  paths_told says numbered (kept_none is same) = record {
    ok = λ e. absurd cc;
    count = λ e. absurd cc;
    bad_lines = λ e. absurd cc;
    bad_rule = λ e. absurd cc;
    rule_first = λ high. absurd (omega (arith, high, rule_low rule numbered));
    no_other = inr (inr (inr is));
    paths_kept = λ e. same;
    error_kept = λ e. refl;
    complete = λ p own low. inr is;
  }
