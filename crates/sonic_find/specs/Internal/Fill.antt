-- What is known while the slots of the paths of a tree are filled, one prefix at a time, in a text that starts with a whole value.
use Rattle.std.specs.Prelude.{◌≡◌, Bool, true, ℕ, List, map}
use Rattle.std.specs.declared.option.Option.{Option}
use Rattle.std.specs.declared.option.Option.TheVariants.{Some, None}
use Rattle.sonic_text.specs.Paths.{Path}
use Rattle.sonic_text.specs.Places.{after_space}
use Rattle.sonic_pointer.specs.Views.{View}
use Rattle.sonic_pointer.specs.declared.rule.KeyRule.TheVariants.{First}
use Rattle.sonic_find.specs.declared.many_unchecked.Origin.{Origin}
use Rattle.sonic_find.specs.declared.outcome.PathOutcome.{PathOutcome}
use Rattle.sonic_find.specs.declared.outcome.PathOutcome.TheVariants.{Found, Missing}
use Rattle.sonic_find.specs.declared.span.Span.{Span}
use Rattle.sonic_find.specs.Answers.{AllLeadBy, NoneCut}
use Rattle.sonic_find.specs.Internal.Walk.{Findings, Question, Point, slot_of}
use Rattle.sonic_find.specs.Paths.{Outcome}

-- the paths of a list are asked for, each by itself, by slots that tell why there is no value or not
abbrev pub slots_question : Bool → List ℕ → List Path → Question
slots_question tells t paths = record { rule = First; text = t; root = after_space t 0; paths = paths; each = tells; tells = tells }

-- the prefix of a view, whose value begins at the origin
abbrev pub origin_at : Bool → Origin → View → Point
origin_at tells origin view = record { asked = slots_question tells origin.text.now view.paths; prefix = view.prefix; place = origin.place }

-- what a slot for a span tells
abbrev pub told_by_span : Option Span → PathOutcome Span
told_by_span (Some s) = Found s
told_by_span None = Missing 0

-- what the slots tell; a path that lacks its key is settled without a note
abbrev pub settled_in : {S : Type 0} → (S → PathOutcome Span) → List S → Findings
settled_in told slots = record { slots = map told slots; lacking = true }

-- each slot tells where its path leads
pub record AreFilled (t : List ℕ) (paths : List Path) (slots : List (PathOutcome Span)) : Type 0 where
  pub outcomes : List Outcome
  pub lead : AllLeadBy First t paths outcomes
  pub none_cut : NoneCut outcomes
  pub told : slots ≡ map (slot_of true) outcomes
