-- The evaluator's stack.
use Rattle.std.specs.Prelude.{◌≡◌, ◌≤◌, ℕ, List, drop}
use Rattle.spec_meaning.specs.declared.value.Value.{Value}
use Rattle.spec_meaning.specs.declared.stack.Stack.{Stack}

-- the values of the variables of the innermost body, which begin at base
abbrev pub scope : Stack → ℕ → List Value
scope stack base = drop base stack.variables.items

-- the variables are the same, and no visit is given back
abbrev pub Spends : Stack → Stack → Type 0
Spends before now = (now.variables.items ≡ before.variables.items) × (now.left ≤ before.left)

-- besides, no part is left on the stack, and none is taken from it
abbrev pub Rests : Stack → Stack → Type 0
Rests before now = Spends before now × (now.parts.items ≡ before.parts.items)
