use Rattle.std.proofs.Common.{◌≡◌, Some, inl, inr, sym, ap, ◌∙◌, arith}
use Rattle.std.proofs.lemmas.Bool.{cases_lt}
use Rattle.std.proofs.lemmas.Option.{get_or_from_slice_get, slice_get_within, slice_get-get_or}
use Rattle.sonic_text.specs.Paths.{key}
use Rattle.sonic_pointer.specs.Internal.Tries.{prefix_at}
use Rattle.sonic_pointer.specs.Internal.TrieFields.{trie_spots, trie_labels}
use Rattle.sonic_pointer.proofs.trie.Trie.look_through.Goals as goal

pub label-requires-clause-step : goal.label-requires-clause-step
label-requires-clause-step c =
    (prefix_at (trie_spots c.args.self.now) c.args.at, c.requires.children.steps c.loop-i.i (omega arith))

pub returns-then-is_key_of-clause-some : goal.returns-then-is_key_of-clause-some
returns-then-is_key_of-clause-some c =
    let many = c.requires.children.count in
    let node = c.requires.children.nodes c.loop-i.i (key c.args.bytes.now) (omega arith) in
    slice_get-get_or (trie_labels c.args.self.now c.args.at) c.loop-i.i (key c.args.bytes.now) (omega arith)
    ∙ ap Some (node ∙ (sym c.label.ensures ∙ c.is_key_of.ensures.same c.if-is_key_of.true))

pub loop-i-preserved : goal.loop-i-preserved
loop-i-preserved c =
    let labels = trie_labels c.args.self.now c.args.at in
    let node = c.requires.children.nodes c.loop-i.i (key c.args.bytes.now) (omega arith) in
    record {
      within = omega arith;
      other = λ k l e. elim (cases_lt k c.loop-i.i) [
        | inl before ↦ c.loop-i.invariant.other k before e
        | inr here ↦ (let same : k ≡ c.loop-i.i = omega arith in
            let is = get_or_from_slice_get labels c.loop-i.i (key c.args.bytes.now) (key c.args.bytes.now) (rw same at e) in
            c.is_key_of.ensures.other c.if-is_key_of.false (c.label.ensures ∙ (sym node ∙ is)))
      ];
    }

pub returns-clause-none : goal.returns-clause-none
returns-clause-none c = λ k e.
    let within = slice_get_within (trie_labels c.args.self.now c.args.at) k _ e in
    c.loop-i.invariant.other k (omega (arith, within, c.requires.children.count)) e
