use Rattle.std.proofs.Common.{◌≡◌, ℕ, ◌+◌, ◌≤◌, ◌++◌, List, length, take, nat_cmp, arith, sym, ap, ◌∙◌}
use Rattle.std.proofs.lemmas.Str.{length-encode}
use Rattle.std.specs.Cmp.Lexicographic.{slice_cmp}
use Rattle.std.specs.Char.{encode_utf8}
use Rattle.sonic_text.specs.Strings.{IsString, strict}
use Rattle.sonic_text.proofs.KeyLemmas.{Agree, key_more, agree, key_read, cmp_prefix}
use Rattle.sonic_text.proofs.StringReadingLemmas.{IsReached, reached_start, reached_before, reached_byte, reached_escape, reached_char, reached_all}
use Rattle.sonic_text.proofs.key.compare_key.Goals as goal
use Rattle.sonic_text.proofs.key.compare_key.Goals.{After-common_len-same}

-- what the text and the key have in common
common : (c : After-common_len-same) → Agree c.args.text.now c.chars.place c.args.end c.as_bytes-key.result.now c.chars.done c.common_len-same.result
common c =
    let i = c.chars.invariant in
    let f = c.common_len-same.ensures in
    agree c.args.text.now c.chars.place c.args.end c.as_bytes-key.result.now c.chars.done c.common_len-same.result (i.0, i.1, i.2) f.within f.same f.plain f.differs

-- is read
read : (c : After-common_len-same) (b : List ℕ) → IsString strict c.args.text.now c.args.start c.args.end b
    → IsReached strict c.args.text.now c.args.start c.args.end (c.chars.place + c.common_len-same.result) b (take (c.chars.done + c.common_len-same.result) c.as_bytes-key.result.now)
read c b s = key_read (common c) (c.chars.invariant.3 b s)

pub chars-init : goal.chars-init
chars-init c =
    let w = reached_before (reached_start c.requires.1) in
    (w.0, w.1, omega arith, λ b s. reached_start s)

pub returns-then-place-end : goal.returns-then-place-end
returns-then-place-end c = λ b s.
    let m = (goal.at.returns-then-place-end c).After-common_len-same in
    let key = c.as_bytes-key.result.now in
    c.cmp.ensures ∙ (cmp_prefix key _ (common m).before.1 ∙ (ap (λ x. slice_cmp nat_cmp x key) (reached_all (read m b s) c.if-place-end.true) ∙ ap (slice_cmp nat_cmp b) c.as_bytes-key.ensures.value))

pub byte_order-requires-clause-differs : goal.byte_order-requires-clause-differs
byte_order-requires-clause-differs c = (common (goal.at.byte_order-requires-clause-differs c).After-common_len-same).differs c.if-place-end.false c.if-byte-ne92.true

pub returns-then-byte-ne92 : goal.returns-then-byte-ne92
returns-then-byte-ne92 c = λ b s.
    let key = c.as_bytes-key.result.now in
    let (rest, e) = reached_byte c.if-byte-ne92.true c.if-place-end.false (read (goal.at.returns-then-byte-ne92 c).After-common_len-same b s) in
    c.byte_order.ensures rest ∙ (ap (λ x. slice_cmp nat_cmp x key) (sym e) ∙ ap (slice_cmp nat_cmp b) c.as_bytes-key.ensures.value)

pub escape_at-code-requires-clause-char : goal.escape_at-code-requires-clause-char
escape_at-code-requires-clause-char c =
    let v = reached_char (read (goal.at.escape_at-code-requires-clause-char c).After-common_len-same c.requires.0 c.requires.1) c.if-place-end.false in
    (_, v.q, v.d, v.char)

pub returns-then-not-goes_on : goal.returns-then-not-goes_on
returns-then-not-goes_on c = λ b s.
    let e = c.escape_at-code in
    let key = c.as_bytes-key.result.now in
    let v = (reached_escape e.result.1 (encode_utf8 e.result.0) e.ensures.one c.if-place-end.false (read (goal.at.returns-then-not-goes_on c).After-common_len-same b s)).1 in
    let o : (rest : List ℕ) → c.piece_order.result ≡ slice_cmp nat_cmp (take (c.chars.done + c.common_len-same.result) key ++ encode_utf8 e.result.0 ++ rest) key =
    rw (← c.codepoint_to_utf8-count.ensures.written e.ensures.small) c.piece_order.ensures in
    o v.rest ∙ (ap (λ x. slice_cmp nat_cmp x key) (sym v.both) ∙ ap (slice_cmp nat_cmp b) c.as_bytes-key.ensures.value)

pub chars-smaller : goal.chars-smaller
chars-smaller c =
    let e = c.escape_at-code in
    let v = reached_escape e.result.1 _ e.ensures.one c.if-place-end.false (read (goal.at.chars-smaller c).After-common_len-same c.requires.0 c.requires.1) in
    omega (arith, v.0, reached_before v.1)

pub chars-preserved : goal.chars-preserved
chars-preserved c =
    let a = c.args in
    let e = c.escape_at-code in
    let key = c.as_bytes-key.result.now in
    let n = c.chars.done + c.common_len-same.result in
    let bytes = encode_utf8 e.result.0 in
    let w = c.codepoint_to_utf8-count in
    let long : length bytes ≡ w.result = length-encode e.result.0 ∙ sym (w.ensures.len e.ensures.small) in
    let h : (n + length bytes ≤ length key) × (take (n + length bytes) key ≡ take n key ++ bytes) = rw (← w.ensures.written e.ensures.small) c.if-not-goes_on.ensures.yes in
    let more = λ (b : List ℕ) (s : IsString strict a.text.now a.start a.end b).
    key_more key bytes n w.result long h.1 (reached_escape e.result.1 bytes e.ensures.one c.if-place-end.false (read (goal.at.chars-preserved c).After-common_len-same b s)).1 in
    let q = reached_before (more c.requires.0 c.requires.1) in
    (q.0, q.1, omega (arith, h.0, long), more)
