-- The walk of a call that lends the first level of a value, of either kind. Assumes `Logic`.
use Rattle.sonic_owned.proofs.Steps.{Fml, Lft, Share, ftrue, flft, SProp, ent, id⊢, ◌⊑◌, fact, Running, tables, follows_so, shows, Is, param, RattleType, MutRef, mut_vals, nothing, peeks, heard, Meets, framed, T, Callee, Fn, named, seq, call, Val, has_ty, WT, Model, Calls, Loops, WpFn, Ura, alloc_all, pass_all, free_all, look_at, get, through, sets, lands_as, Item, ‵, raw, mean, ◌⊛◌, some, later, ◌$◌, ◌∵◌, !, qed, move, drop, use1, split, pick, await, suffices, Logic, enter, addr, stop, no_more, and_then, returns}
use Rattle.std.proofs.Common.{List, [], ◌∷◌, ◌++◌, refl, Result, IfOk, IfErr, IfSome, IsSome, OnErr, OnSome, ◌↔◌, ◌≡◌, MutBor}
use Rattle.std.proofs.alloc.Global.TheLaws.{the_laws as global_laws}
use Rattle.std.specs.Borrow.{LendsSoOk}
use Rattle.std.specs.contracts.alloc.Global as GL
use Rattle.sonic_error.specs.Errors.{IsPlainError}
use Rattle.sonic_error.specs.declared.code.ErrorCode.TheVariants.{NoMemory}
use Rattle.sonic_lazy.specs.Scalars.{container}
use Rattle.sonic_owned.proofs.AnswerLemmas.{level_says, level_back}
use Rattle.sonic_owned.proofs.Answered.{Lent_at, Answer_at, answers}
use Rattle.sonic_owned.proofs.Calls.{closes, spent, told, told_last}
use Rattle.sonic_owned.specs.Forms.{level, Members, scalar_of_form}
use Rattle.sonic_owned.specs.Lends.{answer_name, LoanAnswer}
use Rattle.sonic_owned.specs.Internal.Lends.{IsLevelFound}
use Rattle.sonic_owned.specs.Opened.{IsClosedOf, IsOpened}
use Rattle.sonic_owned.specs.Views.{form}
use Rattle.sonic_owned.specs.contracts.value.OwnedLazyValue.{the_row as R}
use Rattle.sonic_owned.specs.contracts.value.lend.found_or_error as h
use Rattle.sonic_owned.specs.declared.value.lend.Stop.{Stop}
use Rattle.sonic_text.specs.declared.kind.Kind.{Kind}
use denote.Struct.Laws.{val as struct_val}
use denote.Triple.Call.{calls_from}
use mir.Syntax.{Ty, local, value_local, place, deref, addr_of, copy, assign, return}
use mir.Val.{vptr}

-- the code of such a call, whatever its types and the two calls in it
abbrev code_at : (t₀ t₁ t₂ t₃ t₄ τ : Ty) (g k : Callee) → Fn
code_at t₀ t₁ t₂ t₃ t₄ τ g k = record {
  lifetimes = 1;
  outlives = [];
  ty_params = [];
  givens = 0;
  params = 2;
  locals = local t₀ value_local ∷ local t₁ value_local ∷ local t₂ value_local ∷ local t₃ value_local ∷ local t₄ value_local ∷ [];
  body = seq (assign (place 4 []) (addr_of (place 1 (deref τ ∷ [])))) (seq (call g (copy (place 4 []) ∷ copy (place 2 []) ∷ []) (place 3 []))
      (seq (call k (copy (place 3 []) ∷ []) (place 0 [])) return));
}

abbrev pub alloc_vals : GL.the_row.Denot → List Val
alloc_vals x = struct_val GL.the_type global_laws x ∷ []

module _ (A : RattleType) (kind : Kind) (items : A.Denot → Members) (r : MutBor R.Denot) where
  -- what is lent, or why nothing is
  abbrev Lending : Type 0
  Lending = Result (MutBor A.Denot) Stop

  -- what is left of the value at the end of the loan
  abbrev Lent : Lending → Fml
  Lent o = LendsSoOk R (param 0 A) r o (λ m w. form m ≡ level kind (items w)) (λ m. form m ≡ form r.now)

  abbrev Left : LoanAnswer A.Denot → Fml
  Left a = follows_so R (param 0 A) r.ghost_name (answer_name a) (λ w m. IfOk a (λ found. OnSome found (form m ≡ level kind (items w)))) (λ m. form m ≡ form r.now)

  module _ {M : Type 1} {𝓤 : Ura M} (𝓛 : Logic 𝓤) (𝓜 : Model 𝓤 𝓛.H) (𝓡 : Running 𝓤 𝓛.H 𝓜) (κ : Lft) (q : Share) (al : GL.the_row.Denot) where
    open 𝓛 use {H}

    abbrev C : Calls 𝓤 H
    C = (tables 𝓤 H 𝓜 𝓡 𝓡.env).C

    abbrev Λ : Loops 𝓤 H
    Λ = (tables 𝓤 H 𝓜 𝓡 𝓡.env).Λ

    abbrev E : RattleType
    E = Lent_at κ (param 0 A)

    abbrev O : RattleType
    O = Answer_at κ (param 0 A)

    -- what each call begins with, and what the one that lends gives
    abbrev Entry : Item 𝓤
    Entry = ((‵ (flft κ q) ⊛ ‵ ftrue) ⊛ ‵ ((MutRef (named 0) κ R).own_val r (mut_vals r)) ⊛ ‵ (GL.the_row.own_val al (alloc_vals al)) ⊛ ‵ ftrue) ⊛ ‵ ftrue

    abbrev Back : (Unit {0} × (Unit {0} × Unit {0}) → Fml) → Val → Item 𝓤
    Back Rest v = later (some (λ (o : Lending). ((‵ (flft κ q) ⊛ ‵ ftrue) ⊛ ‵ (E.own_val o (v ∷ []))) ⊛
        some (λ (ws : Unit {0} × (Unit {0} × Unit {0})). ‵ (Rest ws) ⊛ ‵ (Lent o) ⊛ raw (fact 𝓤 (IsLevelFound kind (form r.now) items o)))))

    -- and what the call ends with
    abbrev Ends : LoanAnswer A.Denot → Val → Item 𝓤
    Ends a v = ((‵ (flft κ q) ⊛ ‵ ftrue) ⊛ (‵ ftrue ⊛ ‵ ftrue ⊛ ‵ ftrue) ⊛ ‵ (O.own_val a (v ∷ []))) ⊛ ‵ (Left a) ⊛
        raw (fact 𝓤 (IfOk a (λ found. IfSome found (λ l. IsOpened (form r.now) (level kind (items l.now)))))) ⊛
        raw (fact 𝓤 (IfOk a (λ found. IsSome found ↔ (scalar_of_form (form r.now) ≡ container kind)))) ⊛
        raw (fact 𝓤 (IfErr a (λ e. IsPlainError e NoMemory))) ⊛ raw (fact 𝓤 (OnErr a (IsClosedOf kind (form r.now))))

    pub level_walk : (t₀ t₁ t₂ t₃ t₄ τ : Ty) (Rest : Unit {0} × (Unit {0} × Unit {0}) → Fml) {g k : Callee} {post : Val → SProp 𝓤}
        → ((T (has_ty t₁ (vptr r.ref_ptr.0 r.ref_ptr.1)) × WT (vptr r.ref_ptr.0 r.ref_ptr.1))
        × ((T (has_ty t₂ (struct_val GL.the_type global_laws al)) × WT (struct_val GL.the_type global_laws al)) × Unit {0}))
        → T (has_ty t₄ (vptr r.ref_ptr.0 r.ref_ptr.1))
        → ((o : Lending) (v : Val) → Is E o (v ∷ []) → T (has_ty t₃ v) × WT v)
        → ((a : LoanAnswer A.Denot) (v : Val) → Is O a (v ∷ []) → T (has_ty t₀ v) × WT v)
        → ent 𝓤 (mean 𝓛 Entry) (C g (mut_vals r ++ alloc_vals al) (λ v. mean 𝓛 (Back Rest v)))
        → Meets 𝓛 (h.signature A) (C k) (h.spec A 𝓛 𝓜.mem 𝓡.returns) → [] ⊑ A.lives
        → ((a : LoanAnswer A.Denot) (v : Val) → ent 𝓤 (mean 𝓛 (Ends a v)) (post v))
        → ent 𝓤 (mean 𝓛 Entry) (WpFn 𝓤 H C Λ (code_at t₀ t₁ t₂ t₃ t₄ τ g k) (mut_vals r ++ alloc_vals al) post)
    level_walk t₀ t₁ t₂ t₃ t₄ τ Rest passed pointed lent answered lends met lives ends =
        qed 𝓛 (Entry ∷ []) ∵ enter ! C Λ _ (mut_vals r ++ alloc_vals al) _ $ alloc_all ! (λ l. pass_all ! refl passed $
        sets ! (addr ! (through ! refl (stop !))) refl (pointed, tt) $
        calls_from ! (framed 𝓤 H 𝓜 (tables 𝓤 H 𝓜 𝓡 𝓡.env)) Entry (mut_vals r ++ alloc_vals al) (λ v. mean 𝓛 (Back Rest v)) lends
        (and_then ! (get ! refl) (and_then ! (get ! refl) (no_more !))) (λ v. use1 𝓛 (Back Rest v) (id⊢ 𝓤 _) $
        await ! tt $ pick ! (λ o. split ! $ split ! $ split ! $ move ! (1 ∷ []) $ drop ! $ move ! (1 ∷ []) $
        -- [what is lent; the token; the rest]
        peeks ! E (Is E) (shows 𝓛 E) o (v ∷ []) (λ is. lands_as ! refl refl (lent o v is) $ move ! (1 ∷ 0 ∷ []) $
        answers A 𝓛 𝓜 𝓡 κ q o v ! met lives (and_then ! (get ! refl) (no_more !)) (λ v' a is_a isa.
        lands_as ! refl refl (answered a v' isa) $ returns ! (look_at ! 0 refl) $ free_all ! refl $
        -- [the answer; the token; the rest]
        move ! (2 ∷ []) $ pick ! (λ ws. split ! $ drop ! $ split ! $ move ! (1 ∷ []) $ heard ! (IsLevelFound kind (form r.now) items o) (λ found.
        use1 𝓛 (‵ (Left a)) (level_back 𝓛 (param 0 A) r kind items o a is_a) $
        let says = level_says kind items (form r.now) o a found is_a in
        move ! (0 ∷ 2 ∷ []) $ nothing ! $ move ! (1 ∷ 2 ∷ 0 ∷ []) $ suffices ! _ (ends a v') $
        closes ! (spent 𝓤 (spent 𝓤 (id⊢ 𝓤 _))) (told 𝓤 says.some (told 𝓤 says.none (told 𝓤 says.err (told_last 𝓤 says.memory)))))))))))
