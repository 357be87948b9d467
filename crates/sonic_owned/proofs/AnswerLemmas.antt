-- What is answered where a part is lent, or none.
use Rattle.std.proofs.Common.{◌≡◌, ◌<◌, refl, [], ◌∷◌, List, length, None, Ok, Err, IfOk, IfErr, IfSome, OnErr, MutBor, arith, Result, ◌≤◌, ◌↔◌, IsSome, OnSome, Some}
use Rattle.std.specs.Result.{IsErr}
use Rattle.sonic_error.specs.Errors.{IsPlainError}
use Rattle.sonic_error.specs.declared.code.ErrorCode.TheVariants as code
use Rattle.sonic_find.specs.Paths.{kind_of}
use Rattle.sonic_lazy.specs.Scalars.{container}
use Rattle.sonic_owned.proofs.ChangeLemmas.{opened_kind}
use Rattle.sonic_owned.proofs.Loans.{so_weaker, so_lent}
use Rattle.sonic_owned.proofs.ReachLemmas.{kept_along, kept_as_before}
use Rattle.sonic_owned.proofs.WalkLemmas.{lost_nowhere}
use Rattle.sonic_owned.specs.Forms.{Form, IsSound, level, Members, scalar_of_form}
use Rattle.sonic_owned.specs.Lends.{answer_name, LoanAnswer, IsLeftBehind, OfAnswer}
use Rattle.sonic_owned.specs.Internal.Lends.{HasItem, HasNoItem, IsLent, IsItemPut, IsLeft, IsPathFound, IsRefusedLoan, IsLoanAnswer, IsLevelFound, Lending, OfPart}
use Rattle.sonic_owned.specs.Opened.{IsOpened, IsClosedOf}
use Rattle.sonic_owned.specs.Puts.{put_in, IsPartOf, IsPut, put_here, put_on}
use Rattle.sonic_owned.specs.Reached.{IsOpenedAlong, IsKeptAlong, IsOpenedOn, IsUnreached, LeadsNowhere, out_of_memory, too_long}
use Rattle.sonic_owned.specs.Views.{form}
use Rattle.sonic_owned.specs.contracts.value.OwnedLazyValue.{the_row as R}
use Rattle.sonic_owned.specs.declared.value.OwnedLazyValue.{OwnedLazyValue}
use Rattle.sonic_owned.specs.declared.value.lend.Stop.{Stop}
use Rattle.sonic_owned.specs.declared.value.lend.Stop.TheVariants.{Nowhere, NoMemory, TooDeep}
use Rattle.sonic_pointer.specs.Nodes.{path_of, node_of}
use Rattle.sonic_pointer.specs.declared.node.PointerNode.{PointerNode}
use Rattle.sonic_text.specs.Paths.{Node, Path}
use Rattle.sonic_text.specs.declared.kind.Kind.{Kind}
use Rattle.std.proofs.lemmas.List.{length-map}
use Rattle.std.specs.Borrow.{LendsSoOk}
use base.Logic.{ent, SProp}
use denote.Follow.{follows_so}
use denote.RattleType.{RattleType}
use mathlib.Core.Option as maybe
use seplogic.Ra.Ura.{Ura}
use types.Logic.{Logic, sem}

-- what is said of the part that is lent, and of a path that leads to none
pub record Says (path : Path) (f : Form) (a : LoanAnswer OwnedLazyValue) : Type 0 where
  pub some : IfOk a (λ found. IfSome found (λ part. IsPartOf path f (form part.now)))
  pub none : IfOk a (λ found. found ≡ None → LeadsNowhere path f)

pub record SaysOfPath (path : List PointerNode) (f : Form) (a : LoanAnswer OwnedLazyValue) : Type 0 where
  pub says : Says (path_of path) f a
  pub err : IfErr a (IsUnreached (path_of path))
  pub limit : 255 < length path → IsErr a
  pub memory : OnErr a (length path ≤ 255 → IsOpenedOn (path_of path) f)

pub record SaysOfNode (node : Node) (f : Form) (a : LoanAnswer OwnedLazyValue) : Type 0 where
  pub says : Says (node ∷ []) f a
  pub err : IfErr a (λ e. IsPlainError e code.NoMemory)
  pub memory : OnErr a (IsClosedOf (kind_of node) f)

-- what is said of the level that is lent, and of a value of another kind
pub record SaysOfLevel {L : Type 0} (kind : Kind) (items : L → Members) (f : Form) (a : LoanAnswer L) : Type 0 where
  pub some : IfOk a (λ found. IfSome found (λ l. IsOpened f (level kind (items l.now))))
  pub none : IfOk a (λ found. IsSome found ↔ (scalar_of_form f ≡ container kind))
  pub err : IfErr a (λ e. IsPlainError e code.NoMemory)
  pub memory : OnErr a (IsClosedOf kind f)

-- of a path
pub path_says : (path : List PointerNode) (f : Form) (o : Lending) (a : LoanAnswer OwnedLazyValue) → IsPathFound path f o → IsLoanAnswer o a → SaysOfPath path f a
path_says path f (Ok x) a found is = rw is (record {
  says = record { some = found.1; none = λ e. absurd cc };
  err = tt;
  limit = λ long. (let short = found.0 in absurd (omega (arith, long, short)));
  memory = tt;
})
path_says path f (Err Nowhere) a found is = rw is (record {
  says = record { some = tt; none = λ _. found.1 };
  err = tt;
  limit = λ long. (let short = found.0 in absurd (omega (arith, long, short)));
  memory = tt;
})
path_says path f (Err NoMemory) a (short, opens) (e, is, plain) = rw is (record {
  says = record { some = tt; none = tt };
  err = out_of_memory (rw (length-map path node_of) short) plain;
  limit = λ _. refl;
  memory = λ _. opens;
})
path_says path f (Err TooDeep) a long (e, is, plain) = rw is (record {
  says = record { some = tt; none = tt };
  err = too_long (rw (length-map path node_of) long) plain;
  limit = λ _. refl;
  memory = λ short. absurd (omega (arith, long, short));
})

-- of a node
pub item_put_there : {node : Node} {f i j h : Form} → IsItemPut node f i j h → IsPut (node ∷ []) f i j h
item_put_there p = put_on p.opened p.item put_here p.put

pub node_says : (node : Node) (f : Form) (o : Lending) (a : LoanAnswer OwnedLazyValue) → IsSound f → IsLent (HasItem node f) (HasNoItem node f) (IsClosedOf (kind_of node) f) o → IsLoanAnswer o a
    → SaysOfNode node f a
node_says node f (Ok x) a sound found is = rw is (record {
  says = record { some = (put_in node (form x.now) found.level, put_on found.opened found.item put_here refl); none = λ e. absurd cc };
  err = tt;
  memory = tt;
})
node_says node f (Err Nowhere) a sound found is =
    rw is (record { says = record { some = tt; none = λ _ g l. lost_nowhere sound found [] g l }; err = tt; memory = tt })
node_says node f (Err NoMemory) a sound found (e, is, plain) = rw is (record { says = record { some = tt; none = tt }; err = plain; memory = found })
node_says node f (Err TooDeep) a sound found is = absurd found

-- of a level
pub level_says : {L : Type 0} (kind : Kind) (items : L → Members) (f : Form) (o : Result (MutBor L) Stop) (a : LoanAnswer L) → IsLevelFound kind f items o
    → IsLoanAnswer o a
    → SaysOfLevel kind items f a
level_says kind items f (Ok x) a found is = rw is (record { some = found; none = ((λ _. opened_kind found), (λ _. refl)); err = tt; memory = tt })
level_says kind items f (Err Nowhere) a other is = rw is (record { some = tt; none = ((λ e. absurd cc), (λ k. absurd (other k))); err = tt; memory = tt })
level_says kind items f (Err NoMemory) a found (e, is, plain) = rw is (record { some = tt; none = tt; err = plain; memory = found })
level_says kind items f (Err TooDeep) a found is = absurd found

-- nothing is asked of what isn't lent
of_stopped : (stop : Stop) (a : LoanAnswer OwnedLazyValue) (P : Form → Type 0) → IsRefusedLoan stop a → OfAnswer a P
of_stopped Nowhere a P is = rw is tt
of_stopped NoMemory a P (e, is, plain) = rw is tt
of_stopped TooDeep a P (e, is, plain) = rw is tt

some_stopped : {L : Type 0} (stop : Stop) (a : LoanAnswer L) (P : Type 0) → IsRefusedLoan stop a → IfOk a (λ found. OnSome found P)
some_stopped Nowhere a P is = rw is tt
some_stopped NoMemory a P (e, is, plain) = rw is tt
some_stopped TooDeep a P (e, is, plain) = rw is tt

-- what is left of a value whose item isn't lent
node_left : (node : Node) (f h : Form) (stop : Stop) (a : LoanAnswer OwnedLazyValue) → IsRefusedLoan stop a → IsLeft (IsOpenedAlong (node ∷ []) f h) (Err stop) f h
    → IsKeptAlong (node ∷ []) f h × OnErr a (h ≡ f)
node_left node f h Nowhere a is along = rw is (kept_along along, tt)
node_left node f h NoMemory a (e, is, plain) left = rw is (kept_as_before left, left)
node_left node f h TooDeep a is left = absurd left

-- what is lent is what the answer lends
module _ {M : Type 1} {𝓤 : Ura M} (𝓛 : Logic 𝓤) (S : RattleType) (r : MutBor R.Denot) where
  abbrev Lends : Result (MutBor S.Denot) Stop → (R.Denot → S.Denot → Type 0) → (R.Denot → Type 0) → SProp 𝓤
  Lends o P P₀ = sem 𝓛 (LendsSoOk R S r o P P₀)

  abbrev Follows : LoanAnswer S.Denot → (S.Denot → R.Denot → Type 0) → (R.Denot → Type 0) → SProp 𝓤
  Follows a Q Q₀ = sem 𝓛 (follows_so R S r.ghost_name (answer_name a) Q Q₀)

  some_answered : (x : MutBor S.Denot) (P : R.Denot → S.Denot → Type 0) (P₀ : R.Denot → Type 0) (Q : S.Denot → R.Denot → Type 0) (Q₀ : R.Denot → Type 0)
      → ((w : S.Denot) (m : R.Denot) → P m w → Q w m) → (v : R.Denot) → Q₀ v → ent 𝓤 (Lends (Ok x) P P₀) (Follows (Ok (Some x)) Q Q₀)
  some_answered x P P₀ Q Q₀ part v left = so_lent 𝓛 R S r.ghost_name x.ghost_name _ Q _ Q₀ (λ w m p. part w m (p refl)) v left

  none_answered : (stop : Stop) (a : LoanAnswer S.Denot) (P : R.Denot → S.Denot → Type 0) (P₀ : R.Denot → Type 0) (Q : S.Denot → R.Denot → Type 0)
      (Q₀ : R.Denot → Type 0)
      → IsRefusedLoan stop a → ((w : S.Denot) (m : R.Denot) → Q w m) → ((m : R.Denot) → P₀ m → Q₀ m) → ent 𝓤 (Lends (Err stop) P P₀) (Follows a Q Q₀)
  none_answered Nowhere a P P₀ Q Q₀ is none left = rw is (so_weaker 𝓛 R S r.ghost_name maybe.none _ Q _ Q₀ (λ w m _. none w m) left)
  none_answered NoMemory a P P₀ Q Q₀ (e, is, plain) none left = rw is (so_weaker 𝓛 R S r.ghost_name maybe.none _ Q _ Q₀ (λ w m _. none w m) left)
  none_answered TooDeep a P P₀ Q Q₀ (e, is, plain) none left = rw is (so_weaker 𝓛 R S r.ghost_name maybe.none _ Q _ Q₀ (λ w m _. none w m) left)

  -- of a level
  pub level_back : (kind : Kind) (items : S.Denot → Members) (o : Result (MutBor S.Denot) Stop) (a : LoanAnswer S.Denot) → IsLoanAnswer o a
      → ent 𝓤 (sem 𝓛 (LendsSoOk R S r o (λ m w. form m ≡ level kind (items w)) (λ m. form m ≡ form r.now)))
      (sem 𝓛 (follows_so R S r.ghost_name (answer_name a) (λ w m. IfOk a (λ found. OnSome found (form m ≡ level kind (items w)))) (λ m. form m ≡ form r.now)))
  level_back kind items (Ok x) a is =
      rw is (some_answered x _ (λ m. form m ≡ form r.now) (λ w m. form m ≡ level kind (items w)) (λ m. form m ≡ form r.now) (λ w m p. p) r.now refl)
  level_back kind items (Err stop) a is = none_answered stop a _ _ _ _ is (λ w m. some_stopped stop a _ is) (λ m p. p)

-- of a part, and of an item
module _ {M : Type 1} {𝓤 : Ura M} (𝓛 : Logic 𝓤) (r : MutBor R.Denot) where
  pub path_back : (path : List PointerNode) (o : Lending) (a : LoanAnswer OwnedLazyValue) → IsLoanAnswer o a
      → ent 𝓤 (sem 𝓛 (LendsSoOk R R r o (λ m w. OfPart o (λ i. IsPut (path_of path) (form r.now) i (form w) (form m)))
      (λ m. IsLeftBehind path (form r.now) (form m))))
      (sem 𝓛 (follows_so R R r.ghost_name (answer_name a) (λ w m. OfAnswer a (λ i. IsPut (path_of path) (form r.now) i (form w) (form m)))
      (λ m. IsLeftBehind path (form r.now) (form m))))
  path_back path (Ok x) a is =
      rw is (some_answered 𝓛 R r x _ (λ m. IsLeftBehind path (form r.now) (form m)) (λ w m. IsPut (path_of path) (form r.now) (form x.now) (form w) (form m))
      (λ m. IsLeftBehind path (form r.now) (form m)) (λ w m p. p) r.now (kept_as_before refl, λ _. refl))
  path_back path (Err stop) a is = none_answered 𝓛 R r stop a _ _ _ _ is (λ w m. of_stopped stop a _ is) (λ m p. p)

  pub node_back : (node : Node) (o : Lending) (a : LoanAnswer OwnedLazyValue) → IsLoanAnswer o a
      → ent 𝓤 (sem 𝓛 (LendsSoOk R R r o (λ m w. OfPart o (λ i. IsItemPut node (form r.now) i (form w) (form m))) (λ m. IsLeft (IsOpenedAlong (node ∷ []) (form r.now) (form m)) o (form r.now) (form m))))
      (sem 𝓛 (follows_so R R r.ghost_name (answer_name a) (λ w m. OfAnswer a (λ i. IsPut (node ∷ []) (form r.now) i (form w) (form m)))
      (λ m. IsKeptAlong (node ∷ []) (form r.now) (form m) × OnErr a (form m ≡ form r.now))))
  node_back node (Ok x) a is =
      rw is (some_answered 𝓛 R r x _ (λ m. Unit {0}) (λ w m. IsPut (node ∷ []) (form r.now) (form x.now) (form w) (form m))
      (λ m. IsKeptAlong (node ∷ []) (form r.now) (form m) × Unit {0}) (λ w m p. item_put_there p) r.now (kept_as_before refl, tt))
  node_back node (Err stop) a is =
      none_answered 𝓛 R r stop a _ _ _ _ is (λ w m. of_stopped stop a _ is) (λ m left. node_left node (form r.now) (form m) stop a is left)
