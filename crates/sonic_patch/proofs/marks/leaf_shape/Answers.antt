use Rattle.std.proofs.Common.{◌∙◌, ◌++◌, ap, List, ℕ}
use Rattle.std.proofs.lemmas.Result.{IfOk-weaker}
use Rattle.sonic_patch.proofs.ScalarLemmas.{empty_shape, null_shape, number_shape, text_shape, truth_shape}
use Rattle.sonic_patch.proofs.marks.leaf_shape.Goals as goal

pub returns-in-Null : goal.returns-in-Null
returns-in-Null c = λ x l numbers. null_shape c.in-Null.is l

pub returns-in-Truth : goal.returns-in-Truth
returns-in-Truth c = λ x l numbers. truth_shape c.in-Truth.is l

pub returns-in_ok-extend_from_slice-in-Number : goal.returns-in_ok-extend_from_slice-in-Number
returns-in_ok-extend_from_slice-in-Number c = λ x l numbers.
    number_shape c.in-Number.is
    (c.in_ok-extend_from_slice-in-Number.ensures.items ∙ ap (λ (b : List ℕ). b ++ c.in-Number.number.now) c.new-bytes.ensures.items) l

pub returns-in_ok-denoted-in-Text : goal.returns-in_ok-denoted-in-Text
returns-in_ok-denoted-in-Text c = λ x l numbers. text_shape c.in-Text.is c.in_ok-denoted-in-Text.ensures l

pub returns-in-Empty : goal.returns-in-Empty
returns-in-Empty c =
    IfOk-weaker c.container_shape.result _ _
    (λ shape h x l numbers. empty_shape shape c.in-Empty.is (c.as_slice.ensures.value ∙ c.new-pairs.ensures.items) h l) c.container_shape.ensures
