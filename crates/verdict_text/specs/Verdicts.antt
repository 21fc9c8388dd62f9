-- The verdict by trying.
use Rattle.std.specs.Prelude.{ℕ, List, [], ◌∷◌, Option, Some, None}
use Rattle.axe_io.specs.declared.budgets.Budget.{Budget}
use Rattle.axe_io.specs.declared.budgets.Budget.TheVariants.{Steps, Paths, Frames, Elements, Depth, Work, Nodes, Variables, Settle, Lines, Total}
use Rattle.axe_io.specs.declared.budgets.Budgets.{Budgets}
use Rattle.job_meaning.specs.declared.shown.Shown.{Shown}
use Rattle.job_meaning.specs.declared.shown.Shown.TheVariants as shown
use Rattle.verdict_text.specs.declared.verdict.Verdict.{Verdict}
use Rattle.verdict_text.specs.declared.verdict.Verdict.TheVariants as verdict
use Rattle.verdict_text.specs.declared.verdict.Refusal.TheVariants.{Instruction, Form}

-- the number of a budget; that of variables is the blaster's, that of settle that of lines
abbrev pub limit_of : Budgets → Budget → ℕ
limit_of b Steps = b.steps
limit_of b Paths = b.paths
limit_of b Frames = b.frames
limit_of b Elements = b.elements
limit_of b Depth = b.depth
limit_of b Work = b.work
limit_of b Nodes = b.nodes
limit_of b Variables = 16777216
limit_of b Settle = b.lines
limit_of b Lines = b.lines
limit_of b Total = b.total

-- the verdict on what an input shows
abbrev pub verdict_on : Budgets → List ℕ → Shown → Verdict
verdict_on budgets input (shown.Differs method spec) = verdict.Different input method spec
verdict_on budgets input (shown.Refused reason method pc) = verdict.Refused (Instruction reason method pc input)
verdict_on budgets input (shown.Outside at reason) = verdict.Refused (Form reason at input)
verdict_on budgets input (shown.Spends budget) = verdict.Unknown (record { budget = budget; limit = limit_of budgets budget; inputs = input ∷ [] })

-- the verdict on what trying finds among inputs of so many bits
abbrev pub verdict_of : Budgets → ℕ → Option (List ℕ × Shown) → Verdict
verdict_of budgets bits None = verdict.Equal bits
verdict_of budgets bits (Some first) = verdict_on budgets first.0 first.1
