use Rattle.sonic_find.proofs.visited.Visited.visit.Goals as goal
use Rattle.sonic_find.proofs.visited.Visited.visit.Goals.{in-Few, in-Many}
use Rattle.std.proofs.Common.{◌≡◌, ◌<◌, arith, refl, false, not, length}
use Rattle.std.proofs.lemmas.Grind.{common_steps}
use Rattle.std.proofs.lemmas.Option.{slice_get_within}
use Rattle.std.specs.Prelude.{count_by}
use Rattle.sonic_find.proofs.VisitLemmas.{few_within, few_visited, less_are_visits}
use Rattle.sonic_find.proofs.WalkLemmas.List.{one_less}

pub overflow_sub-self : goal.overflow_sub-self
overflow_sub-self c =
    let counted : c.self.inside.left ≡ count_by not c.args.self.now = rw (← c.self.view_is) c.self.invariant.left in
    omega (arith, counted, one_less c.args.self.now c.args.child c.requires)

pub overflow_shl-word : goal.overflow_shl-word
overflow_shl-word c =
    let within = slice_get_within c.args.self.now c.args.child false c.requires in
    let few = few_within c.self.view_is c.in-Few.is c.self.invariant.fits within in
    omega (arith, few)

pub index_mut-requires : goal.index_mut-requires
index_mut-requires c =
    let within : c.args.child < length c.args.self.now = slice_get_within c.args.self.now c.args.child false c.requires in
    let here : c.args.child < length c.in-Many.flags.items = rw (← c.self.view_is, c.in-Many.is) at within in
    grind (arith, common_steps)

pub returns : goal.returns
returns c =
    let within = slice_get_within c.args.self.now c.args.child false c.requires in
    elim c.match-self.branch [
      | in-Few w ↦ rw w.self-inside-is (few_visited c.self.inside.count c.self.view_is w.in-Few.is c.self.invariant.fits within)
      | in-Many w ↦ rw (w.self-inside-is, ← c.self.view_is, w.in-Many.is) refl
    ]

pub invariant_of-self : goal.invariant_of-self
invariant_of-self c =
    let within = slice_get_within c.args.self.now c.args.child false c.requires in
    let counted : c.self.inside.left ≡ count_by not c.args.self.now = rw (← c.self.view_is) c.self.invariant.left in
    elim c.match-self.branch [
      | in-Few w ↦
          let few = few_within c.self.view_is w.in-Few.is c.self.invariant.fits within in
          rw w.self-inside-is (less_are_visits c.args.self.now c.args.child counted c.requires (few_visited c.self.inside.count c.self.view_is w.in-Few.is c.self.invariant.fits within) few.1)
      | in-Many w ↦ rw w.self-inside-is (less_are_visits c.args.self.now c.args.child counted c.requires (rw (← c.self.view_is, w.in-Many.is) refl) tt)
    ]
