-- Parentheses and apostrophes.
use Rattle.std.specs.Prelude.{ℕ, ◌+◌, max, ℤ, ◌==◌, if◌then◌else◌, List, [], ◌∷◌, ◌++◌, length, map, reverse, Option, Some, None, Result, Ok, Err}
use Rattle.std.specs.List.{flat_map}
use Rattle.spec_form.specs.declared.error.SpecError.{SpecError}
use Rattle.spec_form.specs.declared.error.SpecError.TheVariants.{BadForm, Unclosed, TooDeep}
use Rattle.spec_reader.specs.declared.token.Token.{Token}
use Rattle.spec_reader.specs.declared.token.Token.TheVariants as token
use Rattle.spec_reader.specs.declared.token.Located.{Located}
use Rattle.spec_reader.specs.declared.datum.Datum.{Datum}
use Rattle.spec_reader.specs.declared.datum.Datum.TheOpen.{Datum-F}
use Rattle.spec_reader.specs.declared.datum.Datum.TheOpen as layer
use Rattle.spec_reader.specs.declared.datum.Datum.TheViews.{roll-Datum}
use Rattle.spec_reader.specs.declared.datum.Datum.TheFolds.{fold-Datum}
use Rattle.spec_reader.specs.declared.nesting.Marks.{Marks}
use Rattle.spec_reader.specs.declared.nesting.Level.{Level}
use Rattle.spec_reader.specs.declared.nesting.Nest.{Nest}
use Rattle.spec_reader.specs.Reading.{◌>>=◌, steps}
use Rattle.spec_reader.specs.Tokens.{one}

abbrev pub word : ℕ → List ℕ → Datum
word at w = roll-Datum (layer.Word at w)

abbrev pub number : ℕ → ℤ → Datum
number at n = roll-Datum (layer.Number at n)

abbrev pub text : ℕ → Datum
text at = roll-Datum (layer.Text at)

abbrev pub quote : Marks → List Datum → Datum
quote marks parts = roll-Datum (layer.Quote marks.at marks.more parts)

abbrev pub list : ℕ → ℕ → List Datum → Datum
list at end parts = roll-Datum (layer.List at end parts)

-- the open lists, the innermost first, what the innermost has so far, and the apostrophes behind that
pub record State : Type 0 where
  pub levels : List Level
  pub parts : List Datum
  pub marks : Option Marks

abbrev pub start : State
start = record { levels = []; parts = []; marks = None }

abbrev pub state : Nest → State
state nest = record { levels = reverse nest.levels.items; parts = nest.parts; marks = nest.marks }

-- apostrophes quote the datum behind them
abbrev pub quoted : Option Marks → Datum → Datum
quoted None d = d
quoted (Some marks) d = quote marks (d ∷ [])

-- apostrophes at the end of a list quote nothing
abbrev pub ended : Option Marks → List Datum → List Datum
ended None parts = parts
ended (Some marks) parts = parts ++ quote marks [] ∷ []

abbrev pub marked : ℕ → Option Marks → Marks
marked at None = record { at = at; more = [] }
marked at (Some marks) = record { at = marks.at; more = marks.more ++ at ∷ [] }

abbrev pub with_part : State → Datum → State
with_part s d = record { levels = s.levels; parts = s.parts ++ quoted s.marks d ∷ []; marks = None }

abbrev pub with_mark : State → ℕ → State
with_mark s at = record { levels = s.levels; parts = s.parts; marks = Some (marked at s.marks) }

abbrev pub opened : ℕ → State → Result State SpecError
opened at s = if length s.levels == 500 then Err (TooDeep at) else Ok (record { levels = record { at = at; before = s.parts; marks = s.marks } ∷ s.levels; parts = []; marks = None })

abbrev pub close_levels : ℕ → List Level → List Datum → Result State SpecError
close_levels at [] parts = Err (BadForm at)
close_levels at (level ∷ levels) parts = Ok (with_part (record { levels = levels; parts = level.before; marks = level.marks }) (list level.at at parts))

abbrev pub closed : ℕ → State → Result State SpecError
closed at s = close_levels at s.levels (ended s.marks s.parts)

abbrev pub read_token : ℕ → Token → State → Result State SpecError
read_token at token.Open s = opened at s
read_token at token.Close s = closed at s
read_token at token.Apostrophe s = Ok (with_mark s at)
read_token at token.Text s = Ok (with_part s (text at))
read_token at (token.Number n) s = Ok (with_part s (number at n))
read_token at (token.Word w) s = Ok (with_part s (word at w))

abbrev pub step : State → Located → Result State SpecError
step s t = read_token t.at t.token s

-- the offset of the outermost of open lists
abbrev pub outermost : ℕ → List Level → ℕ
outermost at [] = at
outermost at (level ∷ levels) = outermost level.at levels

abbrev pub finish_levels : List Level → List Datum → Result (List Datum) SpecError
finish_levels [] parts = Ok parts
finish_levels (level ∷ levels) parts = Err (Unclosed (outermost level.at levels))

abbrev pub finish : State → Result (List Datum) SpecError
finish s = finish_levels s.levels (ended s.marks s.parts)

-- the data of the tokens, or the first fault of their parentheses
abbrev pub nested : List Located → Result (List Datum) SpecError
nested ts = do
  s ← steps step start ts
  finish s

-- ---- how deep data are

abbrev pub deepest : List ℕ → ℕ
deepest [] = 0
deepest (depth ∷ depths) = max depth (deepest depths)

abbrev pub depth_step : Datum-F ℕ → ℕ
depth_step (layer.Word at w) = 0
depth_step (layer.Number at n) = 0
depth_step (layer.Text at) = 0
depth_step (layer.Quote at more parts) = 1 + deepest parts
depth_step (layer.List at end parts) = 1 + deepest parts

-- how many data lie in one another
abbrev pub depth : Datum → ℕ
depth = fold-Datum ℕ depth_step

abbrev pub depth_of_all : List Datum → ℕ
depth_of_all ds = deepest (map depth ds)

-- ---- what data are spelled

abbrev pub mark_tokens : List ℕ → List Located
mark_tokens marks = map (λ at. record { at = at; token = token.Apostrophe }) marks

abbrev pub tokens_step : Datum-F (List Located) → List Located
tokens_step (layer.Word at w) = one at (token.Word w)
tokens_step (layer.Number at n) = one at (token.Number n)
tokens_step (layer.Text at) = one at token.Text
tokens_step (layer.Quote at more parts) = mark_tokens (at ∷ more) ++ flat_map (λ ts. ts) parts
tokens_step (layer.List at end parts) = one at token.Open ++ (flat_map (λ ts. ts) parts ++ one end token.Close)

abbrev pub tokens_of : Datum → List Located
tokens_of = fold-Datum (List Located) tokens_step

abbrev pub tokens_of_all : List Datum → List Located
tokens_of_all ds = flat_map (λ ts. ts) (map tokens_of ds)
