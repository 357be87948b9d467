-- What a reader of the lines of a head learns from line to line.
use Rattle.std.proofs.Common.{◌≡◌, ℕ, ◌+◌, ◌<◌, ◌≤◌, List, [], ◌∷◌, ◌++◌, length, length-append, append_assoc, append-nil, arith, refl}
use Rattle.std.specs.Prelude.{slice_range}
use Rattle.sonic_paths.specs.declared.head.HeadEnd.TheVariants.{Document, Bad}
use Rattle.sonic_paths.specs.Heads.{line_end, line_at, IsBlank, IsHead, blank_line, blank_end, last_line, one_more_line, AreSaid, no_more_lines, next_line, IsBad, EndsHead, StopsInHead}
use Rattle.sonic_paths.proofs.Heads.{document_within, head_of_line}
use Rattle.sonic_paths.proofs.SaidLemmas.{said_more}

module _ {S : Type 0} (Says : S → List ℕ → S → Type 0) where
  -- the lines before start are said, so many, and whatever follows them is part of the head
  pub record ReadSoFar (t : List ℕ) (before : S) (start : ℕ) (after : S) (count : ℕ) : Type 0 where
    pub lines : List (List ℕ)
    pub said : AreSaid Says before lines after
    pub counted : count ≡ length lines
    pub follow : {more : List (List ℕ)} {d : ℕ} → IsHead t start more d → IsHead t 0 (lines ++ more) d

-- before the first line nothing was read
pub nothing_read : {S : Type 0} {Says : S → List ℕ → S → Type 0} (t : List ℕ) (before : S) → ReadSoFar Says t before 0 before 0
nothing_read t before = record { lines = []; said = no_more_lines; counted = refl; follow = λ h. h }

module _ {S : Type 0} {Says : S → List ℕ → S → Type 0} {t : List ℕ} {before after : S} {start count : ℕ} (s : ReadSoFar Says t before start after count) where
  -- before a blank line the head is read
  pub blank_read : {d : ℕ} → IsHead t start [] d → EndsHead Says t before after (Document d)
  blank_read {d} h =
      let head : IsHead t 0 s.lines d = rw (append-nil s.lines) at (s.follow h) in
      (s.lines, document_within head, head, s.said)

  module _ {end : ℕ} (place : end ≡ line_end t start) (text : ¬ (IsBlank t start)) where
    -- a line that says something is read
    pub line_read : {now : S} {next : ℕ} → end < length t → Says after (slice_range t start end) now → next ≡ count + 1 → ReadSoFar Says t before (end + 1) now next
    line_read {now} below says more =
        let line : Says after (line_at t start) now = rw place at says in
        rw place (record {
          lines = s.lines ++ line_at t start ∷ [];
          said = said_more s.said line;
          counted = omega (arith, more, s.counted, length-append s.lines (line_at t start ∷ []));
          follow = λ {more} {d} h. rw (append_assoc s.lines (line_at t start ∷ []) more) (s.follow (one_more_line text (rw place at below) h));
        })

    -- at the end of the input it is the last
    pub last_read : {now : S} → end ≡ length t → Says after (slice_range t start end) now → EndsHead Says t before now (Document end)
    last_read {now} at_end says =
        let line : Says after (line_at t start) now = rw place at says in
        let head = s.follow (last_line text (rw place at at_end) at_end) in
        (s.lines ++ line_at t start ∷ [], document_within head, head, said_more s.said line)

    -- where the line isn't read those before it are said
    pub stopped_read : start ≤ length t → {now : S} → now ≡ after → StopsInHead Says t before now
    stopped_read within {now} kept =
        let h = head_of_line t start within text in
        rw kept (record { good = s.lines; line = line_at t start; rest = h.0; document = h.1; head = s.follow h.2; said = s.said })

    -- a bad line is the first that is bad
    pub bad_read : start ≤ length t → IsBad Says after (slice_range t start end) → {n : ℕ} → n ≡ count + 1 → {now : S} → now ≡ after → EndsHead Says t before now (Bad n)
    bad_read within bad {n} number {now} kept =
        let h = head_of_line t start within text in
        let line : IsBad Says after (line_at t start) = rw place at bad in
        rw kept (
          s.lines ++ line_at t start ∷ h.0,
          h.1,
          s.follow h.2,
          record {
            good = s.lines;
            after = after;
            line = line_at t start;
            rest = h.0;
            is = refl;
            said = s.said;
            bad = line;
            number = omega (arith, number, s.counted);
          },
          refl,
        )

pub ruleset document_heads = (blank_line, blank_end)
