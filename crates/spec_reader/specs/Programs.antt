-- The program that a text spells.
use Rattle.std.specs.Prelude.{ℕ, ◌+◌, Bool, false, ◌==◌, if◌then◌else◌, List, [], ◌∷◌, ◌++◌, length, map, Option, Some, None, Result, Ok, Err}
use Rattle.spec_form.specs.declared.error.SpecError.{SpecError}
use Rattle.spec_form.specs.declared.error.SpecError.TheVariants.{Duplicate}
use Rattle.spec_reader.specs.declared.expression.Definition.{Definition}
use Rattle.spec_form.specs.declared.form.Form.{Form}
use Rattle.spec_reader.specs.declared.meaning.Meaning.{Meaning}
use Rattle.spec_form.specs.declared.program.Program.{Program}
use Rattle.spec_reader.specs.Reading.{◌>>=◌}
use Rattle.spec_reader.specs.Tokens.{tokens_of}
use Rattle.spec_reader.specs.Nesting.{nested}
use Rattle.spec_reader.specs.Names.{are_distinct}
use Rattle.spec_reader.specs.Expressions.{reading, definitions}
use Rattle.spec_reader.specs.Forms.{Meanings, count, entries, meaning_of, resolve}

abbrev pub is_number : ℕ → Option Meaning → Bool
is_number number None = false
is_number number (Some m) = m.number == number

-- a name that has a meaning, and is defined here first
abbrev pub may_define : Meanings → ℕ → List ℕ → Bool
may_define names number name = is_number number (names name)

-- the body of a function in the scope of its formals; the value of a constant without variables
abbrev pub body_of : Meanings → Definition → Option (List (List ℕ)) → Result Form SpecError
body_of names d (Some formals) = if are_distinct formals then resolve d.body names formals else Err (Duplicate d.at)
body_of names d None = resolve d.body names []

abbrev pub defined : Meanings → ℕ → Definition → Result Form SpecError
defined names number d = if may_define names number d.name then body_of names d d.formals else Err (Duplicate d.at)

abbrev pub no_definitions : Program
no_definitions = record { functions = []; constants = [] }

-- a program with one definition more
abbrev pub added : Program → List ℕ → Form → Option (List (List ℕ)) → Program
added program name body (Some formals) = record { functions = program.functions ++ record { name = name; formals = count (length formals); body = body } ∷ []; constants = program.constants }
added program name body None = record { functions = program.functions; constants = program.constants ++ record { name = name; value = body } ∷ [] }

-- the program of definitions behind so many others, which gave this program
abbrev pub program_from : Meanings → Program → ℕ → List Definition → Result Program SpecError
program_from names program number [] = Ok program
program_from names program number (d ∷ ds) = defined names number d >>= λ body. program_from names (added program d.name body d.formals) (number + 1) ds

abbrev pub program_with : List Definition → Result Program SpecError
program_with ds = program_from (meaning_of (entries ds)) no_definitions 0 ds

-- the definitions that the bytes spell, or their first fault: of their tokens, of their parentheses, of their forms
abbrev pub definitions_of : List ℕ → Result (List Definition) SpecError
definitions_of bytes = do
  tokens ← tokens_of bytes
  data' ← nested tokens
  definitions (map reading data')

-- the program that the bytes spell, or their first fault: that of their definitions, or else of their names
abbrev pub program_of : List ℕ → Result Program SpecError
program_of bytes = definitions_of bytes >>= program_with
