-- What the fields of a walk and of a level denote.
use Rattle.std.specs.Prelude.{◌<◌, ◌≤◌, ℕ, Bool, true, List, IsTrue}
use Rattle.sonic_text.specs.Paths.{index}
use Rattle.sonic_pointer.specs.Paths.{HasNextNode}
use Rattle.sonic_pointer.specs.Views.{View}
use Rattle.sonic_find.specs.declared.state.Walk.TheInside.{Inside}
use Rattle.sonic_find.specs.declared.marks.Mark.{Mark}
use Rattle.sonic_find.specs.declared.walk.Level.{Level}
use Rattle.sonic_find.specs.Found.{slots_of, FlagEscapes}
use Rattle.sonic_find.specs.Internal.Marks.{MarkState}
use Rattle.sonic_find.specs.Internal.Walk.{Findings, WalkState, Question, Point, Container, Progress, GoesBy, IsOpen}

-- the walk that its callers see
abbrev pub walk_state_of : Inside → WalkState
walk_state_of walk = record {
  text = walk.cursor.text;
  place = walk.cursor.place;
  findings = record { slots = slots_of walk.slots.items; lacking = walk.lacking };
  rule = walk.rule;
  root = walk.root;
  each = walk.each;
  marks = walk.marks.items;
}

-- it looks at what it skips, and each value that was found says whether it is a string with a backslash
pub record IsWalk (walk : Inside) : Type 0 where
  pub checks : IsTrue walk.cursor.checks
  pub escaped : FlagEscapes walk.cursor.text walk.slots.items

-- what is asked by the paths of a view
abbrev pub asked_at : WalkState → View → Question
asked_at walk view = record { rule = walk.rule; text = walk.text; root = walk.root; paths = view.paths; each = walk.each; tells = true }

-- the prefix of a view, whose value is expected where the walk has come to
abbrev pub point_at : WalkState → View → Point
point_at walk view = record { asked = asked_at walk view; prefix = view.prefix; place = walk.place }

-- the container of a level, in the text of a walk
abbrev pub container_at : WalkState → Level → Container
container_at walk level = record {
  point = record { asked = asked_at walk level.view.now; prefix = level.view.now.prefix; place = level.start };
  children = level.view.now.children;
  kind = level.kind;
  needs = level.needs;
}

-- the path with this number goes on from the level's prefix by a child that was not visited
abbrev pub is_open : Level → List Bool → ℕ → Type 0
is_open level visited = GoesBy level.view.now.paths level.view.now.prefix level.view.now.children (IsOpen visited)

-- how far a walk came in a container, of whose items these were passed
abbrev pub progress_at : ℕ → ℕ → List Bool → Findings → Progress
progress_at passed next visited findings = record { passed = passed; next = next; visited = visited; findings = findings }

-- how far a walk has come now
abbrev pub progress_of : WalkState → ℕ → List Bool → Progress
progress_of walk passed visited = progress_at passed walk.place visited walk.findings

-- the marks of a walk, by the prefixes of a view
abbrev pub marking_at : WalkState → View → MarkState
marking_at walk view = record { rule = walk.rule; text = walk.text; paths = view.paths; prefixes = view.prefixes; marks = walk.marks }

-- the point of a view whose value is known by its mark
abbrev pub marked_at : WalkState → View → Mark → Point
marked_at walk view mark = record { asked = asked_at walk view; prefix = view.prefix; place = mark.value.start }

-- from the n-th element on none before this one is a child
abbrev pub NoneBefore : View → ℕ → ℕ → Type 0
NoneBefore view n next = (k : ℕ) → n ≤ k → k < next → ¬ HasNextNode view.paths view.prefix (index k)
