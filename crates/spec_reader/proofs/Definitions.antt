-- A program, definition after definition.
use Rattle.std.proofs.Common.{◌≡◌, ℕ, ◌+◌, ◌<◌, List, ◌∷◌, length, get_or, drop, Result, Ok, refl, sym, ap, ◌∙◌, subst, add-one, drop-cons}
use Rattle.spec_form.specs.declared.error.SpecError.{SpecError}
use Rattle.spec_reader.specs.declared.expression.Definition.{Definition}
use Rattle.spec_form.specs.declared.form.Form.{Form}
use Rattle.spec_form.specs.declared.program.Program.{Program}
use Rattle.spec_reader.specs.Reading.{◌>>=◌, Fails}
use Rattle.spec_reader.specs.Forms.{Meanings}
use Rattle.spec_reader.specs.Programs.{defined, added, program_from}
use Rattle.spec_reader.proofs.Faults.{Fails-bind}

same_meanings : (first second : Meanings) → ((name : List ℕ) → first name ≡ second name) → first ≡ second
same_meanings first second same = λ j name. same name j

one_definition : (names : Meanings) (program : Program) (ds : List Definition) (i : ℕ) (d : Definition) → i < length ds → d ≡ get_or ds i d
    → program_from names program i (drop i ds) ≡ (defined names i d >>= λ body. program_from names (added program d.name body d.formals) (i + 1) (drop (i + 1) ds))
one_definition names program ds i d lt is =
    let split : drop i ds ≡ d ∷ drop (i + 1) ds = rw (add-one, drop-cons ds i d, ← is) refl in
    rw split refl

pub goes_on : (table names : Meanings) (program : Program) (ds : List Definition) (i : ℕ) (d : Definition) (body : Form) (all : Result Program SpecError) → ((name : List ℕ) → table name ≡ names name) → i < length ds → d ≡ get_or ds i d
    → defined table i d ≡ Ok body → program_from names program i (drop i ds) ≡ all → program_from names (added program d.name body d.formals) (i + 1) (drop (i + 1) ds) ≡ all
goes_on table names program ds i d body all same lt is done so_far =
    let here : defined names i d ≡ Ok body = ap (λ (m : Meanings). defined m i d) (sym (same_meanings table names same)) ∙ done in
    ap (λ (r : Result Form SpecError). r >>= λ b. program_from names (added program d.name b d.formals) (i + 1) (drop (i + 1) ds)) (sym here) ∙ sym (one_definition names program ds i d lt is) ∙ so_far

pub fails : (table names : Meanings) (program : Program) (ds : List Definition) (i : ℕ) (d : Definition) (e : SpecError) (all : Result Program SpecError) → ((name : List ℕ) → table name ≡ names name) → i < length ds → d ≡ get_or ds i d
    → Fails e (defined table i d) → program_from names program i (drop i ds) ≡ all → Fails e all
fails table names program ds i d e all same lt is failed so_far =
    let here : Fails e (defined names i d) = subst (λ (m : Meanings). Fails e (defined m i d)) (same_meanings table names same) failed in
    subst (λ (r : Result Program SpecError). Fails e r) (sym (one_definition names program ds i d lt is) ∙ so_far) (Fails-bind e (defined names i d) (λ body. program_from names (added program d.name body d.formals) (i + 1) (drop (i + 1) ds)) here)
