-- A run, one step after another.
use Rattle.std.proofs.Common.{◌≡◌, ℕ, suc, ◌+◌, ◌-◌, ◌<◌, ◌≤◌, Ok, Err, refl, sym, ◌∙◌, arith}
use Rattle.axe_io.specs.Shapes.{ShapeParts}
use Rattle.class_file.specs.Contents.{Contents}
use Rattle.jvm_meaning.specs.Numbers.{End, State}
use Rattle.jvm_state.specs.declared.value.End.TheVariants.{MoreSteps}
use Rattle.jvm_state.specs.declared.state.Limits.{Limits}
use Rattle.jvm_meaning.specs.Machine.{step}
use Rattle.jvm_meaning.specs.Runs.{after, run_from}

one : (n i : ℕ) (c : Contents) (p : ShapeParts) (l : Limits) (s : State) → i < n → run_from (n - i) c p l s ≡ after (step c p l s) (run_from (n - (i + 1)) c p l)
unfolding run_from
one n i c p l s lt = let e : n - i ≡ suc (n - (i + 1)) = omega arith in rw e refl

pub run_goes_on : (n i : ℕ) (c : Contents) (p : ShapeParts) (l : Limits) (s next : State) (all : End) → i < n → step c p l s ≡ Ok next → run_from (n - i) c p l s ≡ all → run_from (n - (i + 1)) c p l next ≡ all
run_goes_on n i c p l s next all lt h so_far = sym (one n i c p l s lt ∙ rw h refl) ∙ so_far

pub run_ends : (n i : ℕ) (c : Contents) (p : ShapeParts) (l : Limits) (s : State) (e all : End) → i < n → step c p l s ≡ Err e → run_from (n - i) c p l s ≡ all → e ≡ all
run_ends n i c p l s e all lt h so_far = sym (one n i c p l s lt ∙ rw h refl) ∙ so_far

pub run_is_out : (n i : ℕ) (c : Contents) (p : ShapeParts) (l : Limits) (s : State) (all : End) → n ≤ i → run_from (n - i) c p l s ≡ all → MoreSteps ≡ all
unfolding run_from
run_is_out n i c p l s all le so_far = let e : n - i ≡ 0 = omega arith in sym (rw e refl) ∙ so_far
