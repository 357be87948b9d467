-- What one path comes to in a text, and where it stops.
use Rattle.std.proofs.Common.{◌≡◌, ◌↔◌, ◌∙◌, inl, inr, ap, ℕ, ◌+◌, ◌-◌, ◌≤◌, List, [], ◌∷◌, Bool, true, false, length, take, arith, refl, sym, nat_eq}
use Rattle.std.specs.Prelude.{Some, None, IsTrue}
use Rattle.std.specs.Str.{IsUtf8}
use Rattle.std.proofs.lemmas.Bool.Decides.{nat_tests}
use Rattle.sonic_find.proofs.PathLemmas.Lead.{none_leads, one_more_unnamed, not_named, named_leads, past_value, past_byte, past_key}
use Rattle.sonic_find.proofs.PathLemmas.Outcome.{nowhere_past, evaluates_one, evaluates_some, cut_is_fault, ends_before_end, ends_before_fault, EndsAt}
use Rattle.sonic_find.proofs.PathLemmas.Rule.{by_named, by_first}
use Rattle.sonic_find.specs.Internal.Follow.{IsDeadNode, LacksNode, IsTried, IsRest}
use Rattle.sonic_find.specs.DeadEnds.{IsPathStop, fails_so, cut_so, IsDeadEnd, stops_so, lacks_so}
use Rattle.sonic_find.specs.Internal.Walk.{IsNoEntry}
use Rattle.sonic_find.specs.Paths.{Outcome, lacks, fails, cut, past_end, kind_of, IsNamed, NoneNamed, LeadsOn, LeadsBy, EvaluatesBy, found, LeadsUnder, Leads}
use Rattle.sonic_find.specs.Paths.EvaluatesBy.{found_here, leads_nowhere, cut_here, cut_before}
use Rattle.sonic_pointer.specs.declared.node.PointerNode.{PointerNode}
use Rattle.sonic_pointer.specs.declared.node.PointerNode.TheVariants.{Key}
use Rattle.sonic_error.specs.Errors.{IsPlainError}
use Rattle.sonic_error.specs.Texts.{valid_up_to}
use Rattle.sonic_error.specs.declared.error.Error.{Error}
use Rattle.sonic_error.specs.declared.code.ErrorCode.TheVariants.{InvalidUTF8, NoMemory, GetIndexOutOfArray}
use Rattle.sonic_find.proofs.AnswerLemmas.One.{utf8_or_not}
use Rattle.sonic_find.proofs.Utf8Lemmas.{utf8_of_span}
use Rattle.sonic_find.specs.Answers.{Answer, ComesToAlone, value_found, value_broken, key_lacked, path_failed, path_cut, IsGetAnswer}
use Rattle.sonic_find.specs.Causes.{IsGetError, IsGetRefusal, no_memory, refused, IsGettable}
use Rattle.sonic_find.specs.Laws.{ExactlyOne}
use Rattle.sonic_find.specs.Parts.{IsPart}
use Rattle.sonic_parser.specs.Faults.{IsStopFor, IsErrorOf}
use Rattle.sonic_parser.specs.declared.fault.Fault.{Fault}
use Rattle.sonic_parser.specs.declared.fault.Fault.TheVariants.{OutOfMemory, At}
use Rattle.sonic_text.proofs.Outcomes.{value_some_outcome}
use Rattle.sonic_text.proofs.Stops.{fault_within}
use Rattle.sonic_text.proofs.Within.{value_within}
use Rattle.sonic_find.proofs.SeparatorLemmas.{item_goes_on, member_has_key}
use Rattle.sonic_text.proofs.Insides.{item_whole}
use Rattle.sonic_find.specs.Cursors.{HasWhole}
use Rattle.std.proofs.Math.Seq.{take-length}
use Rattle.sonic_parser.specs.Containers.{GoesOn, IsEnd, IsSeparated, IsSeparatorFault}
use Rattle.sonic_text.proofs.Items.{head_never_both, closing_no_comma}
use Rattle.sonic_text.proofs.Strings.{string_one}
use Rattle.sonic_text.proofs.Values.{items_open, items_not_empty}
use Rattle.sonic_text.specs.Faults.{IsFault, IsKeyFault, in_key, in_value, after_item}
use Rattle.sonic_text.specs.Paths.{Node, Path, key, index}
use Rattle.sonic_text.specs.Places.{after_space}
use Rattle.sonic_text.specs.Strings.{IsString, strict}
use Rattle.sonic_text.specs.Values.{IsValue, IsKey, ItemsFit, no_head, key_head, next_item, filled}
use Rattle.sonic_text.specs.declared.kind.Kind.{Kind}
use Rattle.sonic_text.specs.declared.kind.Kind.TheVariants.{Array, Object}
use Rattle.sonic_text.specs.declared.stop.Stop.{Stop}
use Rattle.sonic_pointer.specs.declared.rule.KeyRule.{KeyRule}
use Rattle.sonic_pointer.specs.declared.rule.KeyRule.TheVariants.{First}

-- stands for no node
abbrev pub no_node : PointerNode
no_node = Key (record { ref_ptr = (0, 0); now = [] })

-- a fault stops each path by a node that doesn't lead on
fault_dead : {t : List ℕ} {i : ℕ} {node : Node} {s : Stop} {rule : KeyRule} → IsFault strict t i s → ((v : ℕ) → ¬ LeadsOn t i node v) → IsDeadNode rule t i node s
fault_dead {node = node} {rule = rule} f none = λ rest. cut_so (cut_before f (λ v l. by_first rule node v l none))

-- no container is entered
pub entry_dead : {t : List ℕ} {i : ℕ} {node : Node} {s : Stop} {rule : KeyRule} → IsNoEntry t i (kind_of node) s → IsDeadNode rule t i node s
entry_dead {node = node} {rule = rule} f = λ rest. f rule node rest refl

-- a key isn't there
pub key_dead : {t : List ℕ} {i n h : ℕ} {node : Node} {s : Stop} {rule : KeyRule} → NoneNamed t i (kind_of node) n h node → kind_of node ≡ Object → IsKeyFault strict t h s
    → IsDeadNode rule t i node s
key_dead {t} {i} {n} {h} before e f =
    let fit : ItemsFit strict t Object i n h = rw e at before.fit in
    fault_dead (in_key fit f) (none_leads before (λ w y. head_never_both e y.head f) (past_key e before.fit f))

-- the value of another item has a fault
pub value_dead : {t : List ℕ} {i n h v : ℕ} {node : Node} {s : Stop} {rule : KeyRule} → NoneNamed t i (kind_of node) n h node → IsTried t node n h v false → IsFault strict t v s
    → IsDeadNode rule t i node s
value_dead before x f =
    fault_dead (in_value before.fit x.item.head f) (none_leads before (not_named x.item (x.other refl)) (past_value before.fit x.item f))

-- after another item nothing fits
pub separator_dead : {t : List ℕ} {i n h v e : ℕ} {node : Node} {s : Stop} {rule : KeyRule} → NoneNamed t i (kind_of node) n h node → IsTried t node n h v false
    → IsValue strict t v e → IsSeparatorFault t (kind_of node) e s → IsDeadNode rule t i node s
separator_dead before x y f =
    fault_dead (after_item before.fit x.item.head y f.0 f.1)
    (none_leads before (not_named x.item (x.other refl)) (past_byte before.fit x.item y f.0.0))

-- after it the next one is tried
pub next_unnamed : {t : List ℕ} {i n h v e g : ℕ} {node : Node} → NoneNamed t i (kind_of node) n h node → IsTried t node n h v false → IsValue strict t v e
    → IsSeparated t e g → NoneNamed t i (kind_of node) (n + 1) g node
next_unnamed {n = n} before x y c =
    let more : n + 1 ≡ n + 1 = refl in
    one_more_unnamed before x.item (x.other refl) (next_item before.fit x.item.head y c.0 c.1 more) more

-- where the container ends, no item is named
pub past_items : {t : List ℕ} {i n h v e j : ℕ} {node : Node} {rule : KeyRule} → NoneNamed t i (kind_of node) n h node → IsTried t node n h v false → IsValue strict t v e
    → IsEnd t (kind_of node) e j → (rest : Path) → EvaluatesBy rule t i (node ∷ rest) (past_end (kind_of node) (j - 1))
past_items {t} {i} {j = j} {node} before x y k = λ rest.
    let none = none_leads before (not_named x.item (x.other refl)) (past_byte before.fit x.item y (λ e. closing_no_comma (kind_of node) (sym k.0 ∙ e))) in
    let past = nowhere_past t i (j - 1) (kind_of node) (items_open before.fit) (items_not_empty before.fit) in
    leads_nowhere (filled before.fit x.item.head y k.0 k.1) none (sym past)

-- past the end of an array each path fails
pub past_fails : {t : List ℕ} {i q : ℕ} {node : Node} {kind : Kind} {rule : KeyRule} → kind ≡ Array → kind_of node ≡ kind → ((rest : Path) → EvaluatesBy rule t i (node ∷ rest) (past_end (kind_of node) q))
    → IsDeadNode rule t i node (record { place = q; code = GetIndexOutOfArray })
past_fails {t} {i} {q} {node} e same past = λ rest. let known : kind_of node ≡ Array = same ∙ e in fails_so (rw known at (past rest))

-- past the end of an object each path lacks its key
pub past_lacks : {t : List ℕ} {i q : ℕ} {node : Node} {kind : Kind} {rule : KeyRule} → kind ≡ Object → kind_of node ≡ kind → ((rest : Path) → EvaluatesBy rule t i (node ∷ rest) (past_end (kind_of node) q))
    → LacksNode rule t i node q
past_lacks {t} {i} {q} {node} e same past = λ rest. let known : kind_of node ≡ Object = same ∙ e in rw known at (past rest)

-- the item that is named is led to
pub tried_leads : {t : List ℕ} {i n h v : ℕ} {node : Node} → NoneNamed t i (kind_of node) n h node → IsTried t node n h v true → LeadsOn t i node v
tried_leads {t} {n = n} {h} {v} {node} before x =
    let item : IsNamed t (kind_of node) n h v node = rw (x.same refl) at x.item in
    named_leads before item

-- where the rest of a path stops, the whole path does
pub rest_stopped : {t : List ℕ} {i v : ℕ} {path rest : Path} {s : Stop} {rule : KeyRule} → IsRest rule t i path v rest → IsPathStop rule t v rest s → IsPathStop rule t i path s
rest_stopped up (fails_so e) = fails_so (up _ e)
rest_stopped up (cut_so e) = cut_so (up _ e)

-- what a node leads on to in a whole value is whole
pub leads_whole : {t : List ℕ} {i v : ℕ} {node : Node} → LeadsOn t i node v → HasWhole t i → HasWhole t v
leads_whole l x = item_whole x.1 l.before.fit l.item.head

-- so it is under each rule
pub by_whole : {t : List ℕ} {i v : ℕ} (r : KeyRule) (node : Node) → LeadsBy r t i node v → HasWhole t i → HasWhole t v
by_whole r node l x = let y = by_named r node l in item_whole x.1 y.fit y.item.head

-- and so is the value of each item
pub tried_whole : {t : List ℕ} {i n h v : ℕ} {is : Bool} {node : Node} → NoneNamed t i (kind_of node) n h node → IsTried t node n h v is → HasWhole t i
    → HasWhole t v
tried_whole before x y = item_whole y.1 before.fit x.item.head

-- a key is named or not
pub key_tried : {t : List ℕ} {n h e v : ℕ} {b text : List ℕ} {node : Node} (is : Bool) → node ≡ key text → IsString strict t h e b → IsKey strict t h v b
    → IsTrue is ↔ IsString strict t h e text → IsTried t node n h v is
key_tried {t} {n} {h} {e} {v} {b} {text} is same s k test = rw same record {
  name = key b;
  item = record { label = Some b; head = key_head k; name = refl };
  same = λ q. ap key (string_one s (test.0 q)).1;
  other = λ q equal.
      let w : b ≡ text = cc in
      let x : IsString strict t h e text = rw w at s in
      let y : is ≡ true = test.1 x in
      let clash : true ≡ false = sym y ∙ q in
      absurd cc;
}

-- an index is or isn't
pub index_tried : {t : List ℕ} {n h m : ℕ} {node : Node} → node ≡ index m → IsTried t node n h h (nat_eq n m)
index_tried {t} {n} {h} {m} same = rw same record {
  name = index n;
  item = record { label = None; head = no_head refl; name = refl };
  same = λ q. let w : n ≡ m = grind (arith, nat_tests) in ap index w;
  other = λ q equal. let w : n ≡ m = cc in grind (arith, nat_tests);
}

-- a path ends within the text
ends_within : {t : List ℕ} {o : Outcome} {q : ℕ} {rule : KeyRule} (path : Path) → LeadsUnder rule t path o → EndsAt o q → q ≤ length t
ends_within {t} path l e = elim (value_some_outcome strict t (after_space t 0)) [
  | inl x ↦ (omega (arith, ends_before_end path l x.1 e, value_within x.1))
  | inr f ↦ (omega (arith, ends_before_fault path l f.1 e, fault_within f.1))
]

-- so does a dead end
pub dead_within : {t : List ℕ} {s : Stop} {rule : KeyRule} (path : Path) → IsDeadEnd rule t (after_space t 0) path s → s.place ≤ length t
dead_within path (stops_so (fails_so e)) = ends_within path e refl
dead_within path (stops_so (cut_so e)) = fault_within (cut_is_fault path e)
dead_within path (lacks_so e is) = rw is (ends_within path e refl)

-- and it is the answer
pub dead_answer : {t : List ℕ} {is_bytes : Bool} {path : Path} {s : Stop} → IsDeadEnd First t (after_space t 0) path s → IsGetAnswer t is_bytes path (Answer.error s)
dead_answer (stops_so (fails_so e)) = record { outcome = _; leads = e; come_to = path_failed }
dead_answer (stops_so (cut_so e)) = record { outcome = _; leads = e; come_to = path_cut }
dead_answer (lacks_so e is) = record { outcome = _; leads = e; come_to = key_lacked is }

-- an outcome comes to one answer
alone_one : {t : List ℕ} {is_bytes : Bool} {o : Outcome} {a b : Answer} → ComesToAlone t is_bytes o a → ComesToAlone t is_bytes o b → a ≡ b
alone_one (value_found u) (value_found w) = refl
alone_one (value_found u) (value_broken e n is) = absurd (n (u e))
alone_one (value_broken e n is) (value_found u) = absurd (n (u e))
alone_one (value_broken e n is) (value_broken d m same) = rw (is, same) refl
alone_one (key_lacked is) (key_lacked same) = rw (is, same) refl
alone_one path_failed path_failed = refl
alone_one path_cut path_cut = refl

-- a path has one answer
get_one : {t : List ℕ} {is_bytes : Bool} {path : Path} {a b : Answer} → IsGetAnswer t is_bytes path a → IsGetAnswer t is_bytes path b → a ≡ b
get_one {t} {is_bytes} {path} {b = b} x y =
    let same : y.outcome ≡ x.outcome = evaluates_one path y.leads x.leads in
    let come : ComesToAlone t is_bytes x.outcome b = rw same at y.come_to in
    alone_one x.come_to come

-- the error of a fault refuses
pub get_refusal : {t : List ℕ} {is_bytes : Bool} {path : Path} {e : Error} (fault : Fault) → IsStopFor (λ s. IsGetAnswer t is_bytes path (Answer.error s)) fault
    → IsErrorOf t fault e → IsGetRefusal t is_bytes path e
get_refusal OutOfMemory h e = no_memory e
get_refusal (At s) h e = refused (record { stop = s; answer = h; error = e })

-- where a value is found no error is the answer
pub never_error : {t : List ℕ} {is_bytes : Bool} {path : Path} {e : Error} → IsGettable t is_bytes path → ¬ IsGetError t is_bytes path e
never_error x h = (let clash = get_one x.answer h.answer in cc)

-- and nothing but memory refuses
pub get_but_memory : {t : List ℕ} {is_bytes : Bool} {path : Path} {e : Error} → IsGettable t is_bytes path → IsGetRefusal t is_bytes path e → IsPlainError e NoMemory
get_but_memory x (no_memory e) = e
get_but_memory x (refused h) = absurd (never_error x h)

-- what is found is the answer where the text is UTF-8 so far
pub found_alone : {t : List ℕ} {is_bytes : Bool} {path : Path} {v e : ℕ} → Leads t path (found v e) → (is_bytes ≡ true → IsUtf8 (take e t))
    → IsGetAnswer t is_bytes path (Answer.spans (Some (v, e) ∷ []))
found_alone {v = v} {e} x text = record { outcome = found v e; leads = x; come_to = value_found text }

-- or else that it is broken
pub broken_alone : {t : List ℕ} {is_bytes : Bool} {path : Path} {v e : ℕ} {s : Stop} → Leads t path (found v e) → is_bytes ≡ true
    → ¬ IsUtf8 (take e t) → s ≡ record { place = valid_up_to (take e t); code = InvalidUTF8 } → IsGetAnswer t is_bytes path (Answer.error s)
broken_alone {v = v} {e} x b n is = record { outcome = found v e; leads = x; come_to = value_broken b n is }

-- a value at the end of a path is found
pub rest_found : {t : List ℕ} {i v e : ℕ} {path : Path} {rule : KeyRule} → IsRest rule t i path v [] → IsValue strict t v e → EvaluatesBy rule t i path (found v e)
rest_found up x = up _ (found_here x)

-- or its fault cuts the path
pub rest_cut : {t : List ℕ} {i v : ℕ} {path : Path} {s : Stop} {rule : KeyRule} → IsRest rule t i path v [] → IsFault strict t v s → IsDeadEnd rule t i path s
rest_cut up f = stops_so (cut_so (up _ (cut_here f)))

-- up to the end of the value that is found the text is UTF-8
utf8_alone : {t : List ℕ} {is_bytes : Bool} {o : Outcome} {i j : ℕ} → ComesToAlone t is_bytes o (Answer.spans (Some (i, j) ∷ [])) → is_bytes ≡ true → IsUtf8 (take j t)
utf8_alone (value_found u) e = u e

-- so it is a part of the text
pub part_alone : {t : List ℕ} {path : Path} {i j : ℕ} (is_bytes : Bool) → IsGetAnswer t is_bytes path (Answer.spans (Some (i, j) ∷ []))
    → (is_bytes ≡ false → IsUtf8 t) → IsValue strict t i j → IsPart t i j
part_alone {t} {i = i} {j} true x text y =
    let within = value_within y in
    record { value = y; inside = within; utf8 = utf8_of_span j (utf8_alone x.come_to refl) y (omega arith) within }
part_alone {t} {i = i} {j} false x text y =
    let within = value_within y in
    record { value = y; inside = within; utf8 = utf8_of_span (length t) (rw (take-length t) (text refl)) y within within }

-- an outcome comes to some answer
alone_some : (t : List ℕ) (is_bytes : Bool) (o : Outcome) → (a : Answer) × ComesToAlone t is_bytes o a
alone_some t is_bytes (lacks q) = (_, key_lacked refl)
alone_some t is_bytes (fails s) = (_, path_failed)
alone_some t is_bytes (cut s) = (_, path_cut)
alone_some t false (found i j) = (_, value_found (λ e. absurd cc))
alone_some t true (found i j) = elim (utf8_or_not (take j t)) [
  | inl u ↦ (_, value_found (λ e. u))
  | inr n ↦ (_, value_broken refl n refl)
]

-- a path has exactly one answer
pub get_answer_one : (t : List ℕ) (is_bytes : Bool) (path : Path) → ExactlyOne (IsGetAnswer t is_bytes path)
get_answer_one t is_bytes path =
    let o = evaluates_some t path (after_space t 0) in
    let a = alone_some t is_bytes o.0 in
    record { some = (a.0, record { outcome = o.0; leads = o.1; come_to = a.1 }); one = λ a b x y. get_one x y }

-- where a member of a whole object is expected, a key with its colon is
pub named_key : {t : List ℕ} {i n h : ℕ} {node : Node} → NoneNamed t i (kind_of node) n h node → kind_of node ≡ Object → HasWhole t i
    → (v : ℕ) × (b : List ℕ) × IsKey strict t h v b
named_key {t} {i} {n} {h} before k x =
    let members : ItemsFit strict t Object i n h = rw k at before.fit in
    member_has_key x.1 members

-- after an item of a whole container a comma or the closing bracket comes
pub tried_goes_on : {t : List ℕ} {i n h v e : ℕ} {is : Bool} {node : Node} → NoneNamed t i (kind_of node) n h node → IsTried t node n h v is
    → IsValue strict t v e → HasWhole t i → GoesOn t (kind_of node) e
tried_goes_on before x value y = item_goes_on y.1 before.fit x.item.head value
