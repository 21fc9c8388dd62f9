-- An evaluation, one form deep.
use Rattle.std.proofs.Common.{◌≡◌, ℕ, zero, suc, ◌-◌, true, false, List, [], ◌∷◌, refl, arith}
use Rattle.std.specs.Prelude.{Err}
use Rattle.spec_form.specs.declared.form.Form.{Form, out-Form}
use Rattle.spec_form.specs.declared.form.FormKind.{FormKind}
use Rattle.spec_form.specs.declared.form.FormKind.TheOpen.{FormKind-F}
use Rattle.spec_form.specs.declared.form.FormKind.TheOpen as kind
use Rattle.spec_form.specs.declared.program.Program.{Program}
use Rattle.spec_meaning.specs.declared.value.Value.{Value}
use Rattle.spec_meaning.specs.declared.stop.Stop.TheVariants as stop
use Rattle.spec_meaning.specs.Work.{Work}
use Rattle.spec_meaning.specs.Evaluations.{is_too_deep, kind_of, eval_form, eval_kind, too_deep}

pub too_deep_ends : (p : Program) (depth : ℕ) (vs : List Value) (f : Form) (left : ℕ) → is_too_deep depth (kind_of f) ≡ true → eval_form p depth vs f left ≡ Err stop.MoreDepth
unfolding eval_form
too_deep_ends p zero vs f left deep = rw deep refl
too_deep_ends p (suc depth) vs f left deep = absurd cc

-- a form that isn't open doesn't read how its parts are evaluated
closed_kind : (p : Program) (go other : List Value → Form → Work Value) (vs : List Value) (at : ℕ) (k : FormKind-F FormKind Form) (left : ℕ) → is_too_deep 0 k ≡ false → eval_kind p go vs at k left ≡ eval_kind p other vs at k left
closed_kind p go other vs at (kind.Number n) left closed = refl
closed_kind p go other vs at kind.T left closed = refl
closed_kind p go other vs at (kind.Quoted zs) left closed = refl
closed_kind p go other vs at (kind.Variable n) left closed = refl
closed_kind p go other vs at (kind.Constant c) left closed = absurd cc
closed_kind p go other vs at (kind.If parts) left closed = absurd cc
closed_kind p go other vs at (kind.Let parts) left closed = absurd cc
closed_kind p go other vs at (kind.LetStar parts) left closed = absurd cc
closed_kind p go other vs at (kind.Cond []) left closed = refl
closed_kind p go other vs at (kind.Cond (part ∷ parts)) left closed = absurd cc
closed_kind p go other vs at (kind.And []) left closed = refl
closed_kind p go other vs at (kind.And (part ∷ parts)) left closed = absurd cc
closed_kind p go other vs at (kind.Or []) left closed = refl
closed_kind p go other vs at (kind.Or (part ∷ parts)) left closed = absurd cc
closed_kind p go other vs at (kind.Builtin b parts) left closed = absurd cc
closed_kind p go other vs at (kind.Call f parts) left closed = absurd cc

pub without_work : (p : Program) (depth : ℕ) (vs : List Value) (f : Form) (left : ℕ) → is_too_deep depth (kind_of f) ≡ false → left ≡ 0 → eval_form p depth vs f left ≡ Err stop.MoreWork
unfolding eval_form
without_work p zero vs f zero closed none = rw closed refl
without_work p (suc depth) vs f zero closed none = refl
without_work p depth vs f (suc left) closed none = absurd (omega (arith, none))

pub entered : (p : Program) (depth : ℕ) (vs : List Value) (f : Form) (left : ℕ) → is_too_deep depth (kind_of f) ≡ false → (left ≡ 0 → ⊥) → eval_form p depth vs f left ≡ eval_kind p (eval_form p (depth - 1)) vs (out-Form f).at (kind_of f) (left - 1)
unfolding eval_form
entered p depth vs f zero closed some = absurd (some refl)
entered p zero vs f (suc left) closed some =
    let less : suc left - 1 ≡ left = omega arith in
    let none : zero - 1 ≡ zero = omega arith in
    rw (closed, less, none) (closed_kind p too_deep (eval_form p 0) vs (out-Form f).at (kind_of f) left closed)
entered p (suc depth) vs f (suc left) closed some =
    let less : suc left - 1 ≡ left = omega arith in
    let shallower : suc depth - 1 ≡ depth = omega arith in
    rw (less, shallower) refl
