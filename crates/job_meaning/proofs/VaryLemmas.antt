-- One input doesn't vary.
use Rattle.std.proofs.Common.{◌≡◌, ℕ, Bool, true, false, List, [], ◌∷◌, Some, refl, sym, ap, ◌∙◌, subst, inl, inr}
use Rattle.std.specs.Prelude.{ℤ, ◌||◌, ◌&&◌, ◌⊎◌, Result, Ok, Err, slice_get}
use Rattle.std.specs.Ordering.{int_eq}
use Rattle.std.specs.Cmp.Lexicographic.{pointwise}
use Rattle.std.proofs.lemmas.Bool.Decides.{Decides-int_eq}
use Rattle.spec_form.specs.declared.form.Form.{Form}
use Rattle.spec_form.specs.declared.form.FormKind.{FormKind}
use Rattle.spec_form.specs.declared.form.FormKind.TheOpen.{FormKind-F}
use Rattle.spec_form.specs.declared.form.FormKind.TheOpen as kind
use Rattle.spec_form.specs.declared.program.Program.{Program}
use Rattle.spec_form.specs.declared.program.FunId.{FunId}
use Rattle.class_file.specs.declared.class.MethodId.{MethodId}
use Rattle.jvm_meaning.specs.Traces.{Visit as Deed}
use Rattle.spec_meaning.specs.declared.value.Value.{Value}
use Rattle.spec_meaning.specs.declared.value.Value.TheVariants.{Number, T, List as Numbers}
use Rattle.spec_meaning.specs.declared.stop.Stop.{Stop}
use Rattle.spec_meaning.specs.Visits.{Address, Visit}
use Rattle.spec_meaning.specs.Varying.{are_alike_numbers, are_alike, is_word, StaticDiffersIn, HasValues, AreOpposite, IsVaryingVisit, VaryInSpecification}
use Rattle.job_meaning.specs.Jobs.{Job}
use Rattle.job_meaning.specs.Varying.{VaryInMethod, VaryInFunction, VaryingInputsDiffer}

or_true : (a b : Bool) → a ≡ true → (a || b) ≡ true
or_true a b e = rw e refl

and_true : (a b : Bool) → a ≡ true → b ≡ true → (a && b) ≡ true
and_true a b e f = rw (e, f) refl

number_alike : (z : ℤ) → are_alike_numbers z z ≡ true
number_alike z = or_true (int_eq z z) (is_word z && is_word z) ((Decides-int_eq z z).1 refl)

list_alike : (zs : List ℤ) → pointwise are_alike_numbers zs zs ≡ true
list_alike [] = refl
list_alike (z ∷ zs) = and_true (are_alike_numbers z z) (pointwise are_alike_numbers zs zs) (number_alike z) (list_alike zs)

alike : (x : Value) → are_alike x x ≡ true
alike (Number z) = number_alike z
alike T = refl
alike (Numbers zs) = list_alike zs

result_of : {A : Type 0} → A → Result (A × ℕ) Stop → A
result_of other (Ok x) = x.0
result_of other (Err stop) = other

value_is : {A : Type 0} (a b : A) (m n : ℕ) (r : Result (A × ℕ) Stop) → r ≡ Ok (a, m) → r ≡ Ok (b, n) → a ≡ b
unfolding result_of
value_is a b m n r one other = ap (result_of a) (sym one ∙ other)

no_static : (p : Program) (k : FormKind-F FormKind Form) (v : Visit) → StaticDiffersIn p k v v → ⊥
no_static p (kind.Number n) v s = s
no_static p kind.T v s = s
no_static p (kind.Quoted zs) v s = s
no_static p (kind.Variable place) v s = s
no_static p (kind.Constant c) v s = s
no_static p (kind.If parts) v s = s
no_static p (kind.Let parts) v s = s
no_static p (kind.LetStar parts) v s = s
no_static p (kind.Cond parts) v s = s
no_static p (kind.And parts) v s = s
no_static p (kind.Or parts) v s = s
no_static p (kind.Builtin b parts) v s = s.differs (ap (λ zs. slice_get zs s.place) (value_is s.values s.others s.left s.rest _ s.one s.other))
no_static p (kind.Call f parts) v s = s

not_opposite : (x y : Value) → x ≡ y → AreOpposite x y → ⊥
not_opposite x y e o = let both : T ≡ Numbers [] = sym o.0 ∙ e ∙ o.1 in cc

no_values : (p : Program) (address : Address) (v : Visit) (x y : Value) → HasValues p v v x y → ((are_alike x y ≡ false) ⊎ ((address ≡ []) × (AreOpposite x y ⊎ AreOpposite y x))) → ⊥
no_values p address v x y h varies =
    let same : x ≡ y = value_is x y h.left h.rest _ h.one h.other in
    elim varies [
      | inl apart ↦ let both : true ≡ false = sym (alike x) ∙ ap (are_alike x) same ∙ apart in cc
      | inr opposite ↦ elim opposite.1 [ inl o ↦ not_opposite x y same o | inr o ↦ not_opposite y x (sym same) o ]
    ]

no_visit : (p : Program) (address : Address) (v w : Visit) (k : FormKind-F FormKind Form) → v ≡ w → IsVaryingVisit p address v w → ⊥
no_visit p address v w k same varies =
    let one : IsVaryingVisit p address v v = subst (λ (z : Visit). IsVaryingVisit p address v z) (sym same) varies in
    elim one [ inl s ↦ no_static p _ v s | inr h ↦ no_values p address v h.0 h.1 h.2 h.3 ]

visit_is : (v w : Visit) → Some v ≡ Some w → v ≡ w
visit_is v w e = cc

not_in_function : (p : Program) (f : FunId) (args : List Value) (depth work at : ℕ) → VaryInSpecification p f args args depth work at → ⊥
not_in_function p f args depth work at v = no_visit p v.address v.one v.other kind.T (visit_is v.one v.other (sym v.visits ∙ v.visits_too)) v.varies

deed_is : (v w : Deed) → Some v ≡ Some w → v ≡ w
deed_is v w e = cc

number_is : (m n : ℕ) → Some m ≡ Some n → m ≡ n
number_is m n e = cc

not_in_method : (job : Job) (input : List ℕ) (method : MethodId) (pc : ℕ) → VaryInMethod job input input method pc → ⊥
not_in_method job input method pc v =
    let same : v.one ≡ v.two = deed_is v.one v.two (sym v.here ∙ v.there) in
    v.differs (number_is v.length v.another (sym v.makes ∙ ap (λ (w : Deed). slice_get w.marks v.array) same ∙ v.makes_too))

pub differ : VaryingInputsDiffer
differ = record {
  method = λ job input other method pc v same. not_in_method job input method pc (subst (λ (i : List ℕ). VaryInMethod job input i method pc) (sym same) v);
  function = λ job input other at v same. not_in_function job.program job.function _ job.depth job.work at (subst (λ (i : List ℕ). VaryInFunction job input i at) (sym same) v);
}
