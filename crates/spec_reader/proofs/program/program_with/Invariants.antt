use Rattle.std.proofs.Common.{◌≡◌, drop}
use Rattle.spec_reader.specs.Forms.{meaning_of, entries}
use Rattle.spec_reader.specs.Programs.{program_from, program_with}
use Rattle.spec_reader.proofs.program.program_with.Given as goal

abbrev pub invariant-loop-number : goal.invariant-loop-number
invariant-loop-number l = program_from (meaning_of (entries l.definitions)) l.program l.number (drop l.number l.definitions) ≡ program_with l.definitions
