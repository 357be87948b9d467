use Rattle.std.proofs.Common.{◌∙◌, sym, ap}
use Rattle.sonic_text.specs.Values.{type_of}
use Rattle.sonic_patch.proofs.LeafLemmas.{null_leaf, truth_leaf, number_leaf, text_leaf, array_leaf, object_leaf}
use Rattle.sonic_patch.proofs.walk.leaf_at.Goals as goal

pub returns-in-Null : goal.returns-in-Null
returns-in-Null c = λ x m bare. null_leaf m (ap type_of (sym c.byte_at-first.ensures.value) ∙ sym c.type_of.ensures ∙ c.in-Null.is)

pub returns-in-Boolean : goal.returns-in-Boolean
returns-in-Boolean c = λ x m bare.
    rw c.byte_at-first.ensures.value (truth_leaf m (ap type_of (sym c.byte_at-first.ensures.value) ∙ sym c.type_of.ensures ∙ c.in-Boolean.is))

pub returns-in-Number : goal.returns-in-Number
returns-in-Number c = λ x m bare. number_leaf m (ap type_of (sym c.byte_at-first.ensures.value) ∙ sym c.type_of.ensures ∙ c.in-Number.is)

pub returns-in-String : goal.returns-in-String
returns-in-String c = λ x m bare. text_leaf m (ap type_of (sym c.byte_at-first.ensures.value) ∙ sym c.type_of.ensures ∙ c.in-String.is)

pub returns-in-Array : goal.returns-in-Array
returns-in-Array c = λ x m bare. array_leaf m (ap type_of (sym c.byte_at-first.ensures.value) ∙ sym c.type_of.ensures ∙ c.in-Array.is) bare

pub returns-in-Object : goal.returns-in-Object
returns-in-Object c = λ x m bare. object_leaf m (ap type_of (sym c.byte_at-first.ensures.value) ∙ sym c.type_of.ensures ∙ c.in-Object.is) bare
