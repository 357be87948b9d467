use Rattle.std.proofs.Common.{◌≡◌, ℕ, ◌+◌, ◌-◌, ◌<◌, ◌≤◌, List, not, length, take, drop, get_or, ap, sym, ◌∙◌, arith}
use Rattle.std.proofs.lemmas.List.{get_or-take, get_or-drop, length-take, length-drop}
use Rattle.sonic_blocks.specs.Bits.{is_set}
use Rattle.sonic_blocks.specs.Runs.{is_plain}
use Rattle.sonic_text.specs.Places.{byte}
use Rattle.sonic_text.proofs.string.special_at.Goals as goal

-- a byte of a chunk is one of the text
chunk_byte : (t : List ℕ) (p k : ℕ) → k < 32 → p + 32 ≤ length t → get_or (take 32 (take (length t - p) (drop p t))) k 0 ≡ byte t (p + k)
chunk_byte t p k h within = get_or-take 32 (take (length t - p) (drop p t)) k 0 h ∙ get_or-take (length t - p) (drop p t) k 0 (omega arith) ∙ get_or-drop p t k 0

pub returns : goal.returns
returns c =
    let t = c.args.text.now in
    let p = c.args.place in
    let first = c.in_ok-bytes.ensures.cases in
    let within : p + 32 ≤ length t = omega (arith, first.enough, length-take (length t - p) (drop p t), length-drop p t) in
    record {
      within = within;
      bits = λ k h. ap (λ w. is_set w k) c.special_bits.ensures ∙ c.new.ensures.special k h ∙ ap (λ b. not (is_plain b)) (ap (λ bytes. get_or bytes k 0) first.same ∙ chunk_byte t p k h within);
      few = λ k set. c.new.ensures.few k (sym (ap (λ w. is_set w k) c.special_bits.ensures) ∙ set);
    }
