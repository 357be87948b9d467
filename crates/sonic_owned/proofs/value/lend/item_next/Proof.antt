-- The generic call at the type itself. Assumes `Logic`.
use Rattle.sonic_owned.proofs.Steps.{proved, Fml, Lft, Share, ftrue, full_share, id⊢, ⊑_static, fact, tables, RefOf, usize, yes, no, shows, Is, arg, layout, Laws, arg_laws, uint_vals, uint_Tells, RattleType, MutRef, mut_vals, mut_Tells, ShrRef, shr_vals, shr_Tells, plain, mut_ref_to, peeks, heard, calls_at, lasts, triple_of, framed, Stays, walk_of, stay_dropped, Goes-dropped, Goes-spent_ref, ends_at, bare, named, w64, alloc_all, pass_all, free_all, look_at, get, through, sets, lands_as, Item, ‵, raw, ◌⊛◌, some, later, ◌$◌, ◌∵◌, !, qed, move, drop, use1, use2, split, pick, await, suffices, enter, addr, stop, no_more, and_then, returns}
use Rattle.std.proofs.Common.{List, [], ◌∷◌, refl}
use Rattle.std.specs.Borrow.{LendsSoOk}
use Rattle.sonic_owned.proofs.Answered.{Lent_at, lent_typed}
use Rattle.sonic_owned.proofs.Calls.{and_static, closes, enters, loses, spent, told_last, tokens}
use Rattle.sonic_owned.proofs.value.OwnedLazyValue.TheLaws.{the_row_laws}
use Rattle.sonic_owned.proofs.value.lend.OwnedLazyValueOpens.TheImpl.Met.{passed}
use Rattle.sonic_owned.proofs.value.lend.item_next.Code as code
use Rattle.sonic_owned.proofs.value.lend.item_next.Statement.{statement}
use Rattle.sonic_owned.proofs.value.lend.lend_next.Met.{met}
use Rattle.sonic_owned.specs.Internal.Lends.{AtNode, HasItem, HasNoItem, IfAtNode, IsLent, IsItemPut, IsLeft, Lending, OfPart}
use Rattle.sonic_owned.specs.Opened.{IsClosedOf}
use Rattle.sonic_find.specs.Paths.{kind_of}
use Rattle.sonic_owned.specs.Reached.{IsOpenedAlong}
use Rattle.sonic_owned.specs.Views.{form}
use Rattle.sonic_owned.specs.contracts.value.OwnedLazyValue.{the_row as R}
use Rattle.sonic_owned.specs.contracts.value.lend.OwnedLazyValueOpens.TheImpl.{ghosts, dict}
use Rattle.sonic_owned.specs.contracts.value.lend.Way.{the_row as Way_at}
use Rattle.sonic_owned.specs.contracts.value.lend.item_next as f
use Rattle.sonic_owned.specs.contracts.value.lend.lend_next as g

abbrev A : RattleType
A = arg (bare (layout R)) no R

abbrev L : Laws A
L = arg_laws (bare (layout R)) no R the_row_laws refl

abbrev Path : Lft → Lft → RattleType
Path κ λ₁ = Way_at (record { mir = named 2; lft = κ }) (record { mir = named 3; lft = λ₁ })

abbrev stayed : Stays f.ended.signature.params f.ended.kept
stayed = (
  stay_dropped (mut_ref_to (0 ∷ []) tt (plain (λ _. R))) _,
  (
    stay_dropped (RefOf (1 ∷ []) tt (plain (λ κs. Path κs.1.1.0 κs.1.1.1.0)) (λ _. tt)) yes,
    (stay_dropped (plain (λ _. usize)) yes, tt),
  ),
)

pub item_next_spec : {M : Type 1} → statement M
item_next_spec {M} 𝓤 𝓛 𝓜 𝓡 wired =
    let c = f.clauses 𝓛 𝓜.mem 𝓡.returns in let W = walk_of 𝓛 f.ended stayed c in
    proved 𝓛 f.ended stayed c 𝓜 𝓡 (
      Goes-spent_ref 𝓛 4 (0 ∷ []) tt (plain (λ _. R)),
      (
        Goes-dropped 𝓛 4 (RefOf (1 ∷ []) tt (plain (λ κs. Path κs.1.1.0 κs.1.1.1.0)) (λ _. tt)) yes (λ κs x w. refl),
        (Goes-dropped 𝓛 4 (plain (λ _. usize)) yes (λ κs x w. refl), tt),
      ),
    )
    f.Key.name code.function (code.unfolded 𝓤 𝓛.H 𝓜 𝓡 wired)
    (λ κs. (mut_vals, (shr_vals, (uint_vals w64, tt)))) (λ κs. (
      mut_Tells (named 0) κs.0 R,
      (shr_Tells (named 1) κs.1.0 (Path κs.1.1.0 κs.1.1.1.0), (uint_Tells w64, tt)),
    )) (λ κs qs bounds a _ are.
    let κ = κs.0 in let λ₁ = κs.1.0 in let κs' = κs.1.1.0 in let κp = κs.1.1.1.0 in let q = qs.0 in let q₁ = qs.1.0 in let qs' = qs.1.1.0 in let qp
    = qs.1.1.1.0 in
    let r = a.0 in let p = a.1.0 in let n = a.1.1.0 in
    let y : W.Ghost = ((κs, qs, bounds, a, (mut_vals r, (shr_vals p, (uint_vals w64 n, tt)))), tt) in
    let Lent : RattleType = MutRef (named 0) κ R in
    let Shown : RattleType = ShrRef (named 1) λ₁ (Path κs' κp) in
    let G = triple_of 𝓛 (g.signature A) (g.spec A ghosts dict 𝓛 𝓜.mem 𝓡.returns) in
    let z : G.Ghost = (
      (
        (κ, (λ₁, (κs', (κp, ([], tt))))),
        (q, (q₁, (qs', (qp, (full_share, tt))))),
        (bounds.0, (bounds.1.0, (bounds.1.1.0, (⊑_static κ, tt)))),
        (r, (p, (n, tt))),
        (mut_vals r, (shr_vals p, (uint_vals w64 n, tt))),
      ),
      tt,
    ) in
    let E = Lent_at κ R in
    let path = p.now.nodes.now in
    let F : Lending → Fml = λ o. LendsSoOk R R r o (λ m w. OfPart o (λ i. AtNode n path (λ node. IsItemPut node (form r.now) i (form w) (form m))))
    (λ m. IsLeft (AtNode n path (λ node. IsOpenedAlong (node ∷ []) (form r.now) (form m))) o (form r.now) (form m)) in
    let V : Lending → Type 0 = λ o. IsLent (λ i. AtNode n path (λ node. HasItem node (form r.now) i))
    (AtNode n path (λ node. HasNoItem node (form r.now))) (IfAtNode n path (λ node. IsClosedOf (kind_of node) (form r.now))) o in
    let ts : List (Lft × Share) = (κ, q) ∷ (λ₁, q₁) ∷ (κs', qs') ∷ (κp, qp) ∷ [] in
    let own : Item 𝓤 = ‵ (Lent.own_val r (mut_vals r)) ⊛ ‵ (Shown.own_val p (shr_vals p)) ⊛ ‵ (usize.own_val n (uint_vals w64 n)) ⊛ ‵ ftrue in
    qed 𝓛 ((tokens ts ⊛ own) ∷ ‵ ftrue ∷ []) ∵
    use2 𝓛 (raw (G.pre z)) (enters 𝓛 ts own (λ x m. m)) $
    enter ! _ _ _ _ _ $ alloc_all ! (λ l. pass_all ! refl ((tt, tt), ((tt, tt), ((tt, record { fits = are.1.1.0.1 }), tt))) $
    sets ! (addr ! (through ! refl (stop !))) refl (tt, tt) $
    calls_at ! (framed 𝓤 𝓛.H 𝓜 (tables 𝓤 𝓛.H 𝓜 𝓡 𝓡.env)) G
    (met 𝓤 𝓛 𝓜 𝓡 (code.calls-sonic_owned::value::lend::lend_next 𝓡.env wired) A L ghosts dict
    (passed 𝓡.env (code.calls-sonic_owned::value::lend::OwnedLazyValueOpens::is_for 𝓡.env wired)
    (code.calls-sonic_owned::value::lend::OwnedLazyValueOpens::open_level 𝓡.env wired)
    (code.calls-sonic_owned::value::lend::OwnedLazyValueOpens::array_level 𝓡.env wired)
    (code.calls-sonic_owned::value::lend::OwnedLazyValueOpens::object_level 𝓡.env wired) M 𝓤 𝓛 𝓜 𝓡)) z
    (and_then ! (get ! refl) (and_then ! (get ! refl) (and_then ! (get ! refl) (no_more !)))) (λ v.
    use1 𝓛 (later (some (λ (o : Lending). (tokens (and_static ts) ⊛ ‵ (E.own_val o (v ∷ []))) ⊛
    some (λ (ws : Unit {0} × (Unit {0} × (Unit {0} × Unit {0}))). ‵ (lasts (g.ended A ghosts dict) z.0.0 z.0.3 ws) ⊛ ‵ (F o) ⊛ raw (fact 𝓤 (V o))))))
    (id⊢ 𝓤 _) $
    await ! tt $ pick ! (λ o. split ! $ split ! $ move ! (1 ∷ []) $
    -- [the result; the tokens; the rest]
    peeks ! E (Is E) (shows 𝓛 E) o (v ∷ []) (λ is. lands_as ! refl refl (lent_typed κ R 𝓛 o v is) $ returns ! (look_at ! 0 refl) $ free_all ! refl $
    move ! (2 ∷ []) $ pick ! (λ ws. split ! $ drop ! $ split ! $ move ! (1 ∷ []) $ heard ! (V o) (λ found. move ! (2 ∷ []) $
    use1 𝓛 (tokens ts) (loses 𝓛 ts) $ split ! $ move ! (2 ∷ 0 ∷ 1 ∷ []) $
    suffices ! _ (ends_at 𝓛 f.ended stayed c y v o (tt, (tt, (tt, tt))) (tt, (tt, (tt, tt)))) $
    closes ! (spent 𝓤 (spent 𝓤 (spent 𝓤 (id⊢ 𝓤 _)))) (told_last 𝓤 found))))))))
