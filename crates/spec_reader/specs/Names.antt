-- The names that a text may not define.
use Rattle.std.specs.Prelude.{ℕ, ◌-◌, Bool, true, false, not, ◌&&◌, ◌||◌, ◌==◌, nat_le, List, [], ◌∷◌, length, codes, is_some, Option, Some, None, slice_get}
use Rattle.std.specs.List.{list_all}
use Rattle.std.specs.Str.{bytes_eq}
use Rattle.std.specs.HashSet.{contains_by}
use Rattle.spec_reader.specs.declared.names.Seen.{Seen}
use Rattle.spec_reader.specs.Calls.{call_named}

-- the name of a form that is skipped at the top level
abbrev pub is_skipped : List ℕ → Bool
is_skipped name = bytes_eq name (codes "in-package") || bytes_eq name (codes "include-book") || bytes_eq name (codes "local") || bytes_eq name (codes "defthm") || bytes_eq name (codes "defthmd") || bytes_eq name (codes "in-theory") || bytes_eq name (codes "verify-guards")

-- the name of a form that defines a function
abbrev pub is_defun : List ℕ → Bool
is_defun name = bytes_eq name (codes "defun") || bytes_eq name (codes "defund")

abbrev pub is_defconst : List ℕ → Bool
is_defconst name = bytes_eq name (codes "defconst")

abbrev pub is_declare : List ℕ → Bool
is_declare name = bytes_eq name (codes "declare")

abbrev pub is_t : List ℕ → Bool
is_t name = bytes_eq name (codes "t")

abbrev pub is_nil : List ℕ → Bool
is_nil name = bytes_eq name (codes "nil")

-- the name of an expression that is no call
abbrev pub is_expression : List ℕ → Bool
is_expression name = is_t name || is_nil name || bytes_eq name (codes "quote") || bytes_eq name (codes "if") || bytes_eq name (codes "let") || bytes_eq name (codes "let*") || bytes_eq name (codes "cond") || bytes_eq name (codes "and") || bytes_eq name (codes "or")

-- a name that a definition may have: not that of a form of the language
unfoldable pub is_free : List ℕ → Bool
is_free name = not (is_skipped name || is_defun name || is_defconst name || is_declare name || is_expression name || is_some (call_named name))

-- a name that a formal or a bound value may have
abbrev pub is_variable : List ℕ → Bool
is_variable name = not (is_t name || is_nil name)

-- each name may be a formal
abbrev pub are_variables : List (List ℕ) → Bool
are_variables names = list_all is_variable names

abbrev pub is_star : Option ℕ → Bool
is_star None = false
is_star (Some b) = b == 42

-- the name of a constant: `*`, something, `*`
abbrev pub is_constant : List ℕ → Bool
is_constant name = nat_le 3 (length name) && is_star (slice_get name 0) && is_star (slice_get name (length name - 1))

-- each name is none that was seen, and none that stands before it
abbrev pub are_fresh : (List ℕ → Bool) → List (List ℕ) → Bool
are_fresh seen [] = true
are_fresh seen (name ∷ names) = not (seen name) && are_fresh (λ other. bytes_eq name other || seen other) names

-- no name stands there twice
abbrev pub are_distinct : List (List ℕ) → Bool
are_distinct names = are_fresh (λ name. false) names

-- a name that was seen
abbrev pub is_seen : Seen → List ℕ → Bool
is_seen seen name = contains_by (λ key. bytes_eq name key.now) seen.names
