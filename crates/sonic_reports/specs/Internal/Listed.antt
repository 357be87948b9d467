-- What was listed of a container.
use Rattle.std.specs.Prelude.{◌≡◌, ℕ, true, List}
use Rattle.std.specs.List.{flat_map}
use Rattle.std.specs.declared.option.Option.{Option}
use Rattle.std.specs.declared.option.Option.TheVariants.{Some, None}
use Rattle.sonic_error.specs.declared.code.ErrorCode.TheVariants.{NoMemory}
use Rattle.sonic_error.specs.declared.error.Error.{Error}
use Rattle.sonic_error.specs.Errors.{IsErrorAt, IsPlainError}
use Rattle.sonic_text.specs.declared.kind.Kind.{Kind}
use Rattle.sonic_text.specs.declared.stop.Stop.{Stop}
use Rattle.sonic_lazy.specs.Items.{Item, closed, stopped, EndsItems, AreItems}
use Rattle.sonic_reports.specs.declared.commands.list.Listed.{Listed}
use Rattle.sonic_reports.specs.Commands.Items.{line_of_item}
use Rattle.sonic_reports.specs.Internal.Replies.{text_of_lines}

-- the error is where the items stop, or memory ran out
pub data IsLastError (t : List ℕ) (kind : Kind) (n : ℕ) (e : Error) : Type 0 where
  out_of_memory : IsPlainError e NoMemory → IsLastError t kind n e
  last_stop : (s : Stop) → EndsItems t true kind n (stopped s) → IsErrorAt e s.code t s.place → IsLastError t kind n e

-- how the items end
abbrev pub EndsBy : List ℕ → Kind → ℕ → Option Error → Type 0
EndsBy t kind n None = EndsItems t true kind n closed
EndsBy t kind n (Some e) = IsLastError t kind n e

-- the bytes are the lines of the first n items
pub record AreLinesOf (t : List ℕ) (kind : Kind) (n : ℕ) (text : List ℕ) : Type 0 where
  pub items : List Item
  pub are : AreItems t kind n items
  pub lines : text ≡ flat_map (line_of_item t) items

-- all items were listed
pub record AreListed (t : List ℕ) (kind : Kind) (listed : Listed) : Type 0 where
  pub count : ℕ
  pub lines : AreLinesOf t kind count (text_of_lines listed.lines)
  pub ending : EndsBy t kind count listed.error
