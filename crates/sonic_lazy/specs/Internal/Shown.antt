-- Values that show the text of spans.
use Rattle.std.specs.Prelude.{◌≡◌, ℕ, List, map, option_map}
use Rattle.std.specs.declared.option.Option.{Option}
use Rattle.sonic_lazy.specs.declared.lazyvalue.LazyValue.{LazyValue}
use Rattle.sonic_find.specs.Answers.{Span, span_text}
use Rattle.sonic_lazy.specs.LazyValues.{raw_bytes}

-- the values have the texts of the spans, one by one, and there is none where there is no span
abbrev pub HaveTexts : List ℕ → List (Option LazyValue) → List (Option Span) → Type 0
HaveTexts t values entries = map (option_map raw_bytes) values ≡ map (option_map (span_text t)) entries
