-- A job that may be decided is.
use Rattle.std.proofs.Common.{◌≡◌, ◌⊎◌, ℕ, ◌<◌, ◌≤◌, List, [], ◌∷◌, Option, Some, None, Result, Ok, Err, length, codes, refl, sym, ap, ◌∙◌, subst, inl, inr, arith}
use Rattle.clap.specs.Words.{IsAmong}
use Rattle.axe_io.specs.Ends.{Told}
use Rattle.axe_io.specs.Inputs.{bits_of}
use Rattle.axe_io.specs.declared.budgets.Budgets.{Budgets}
use Rattle.axe_words.specs.Options.{Text, NumberOption, number_options, numbers_of, HaveNumbers, bad_on, first_bad, sizes_of, out_of}
use Rattle.axe_words.specs.Command.{given_by, faults}
use Rattle.axe_words.specs.Meaning.{IsJob, IsJobOf, IsWordsFault, first_word}
use Rattle.axe_words.specs.declared.job.Command.TheVariants as command
use Rattle.axe_words.specs.declared.job.Job.{Job}
use Rattle.axe_words.specs.declared.job.Job.TheVariants.{Prove}
use Rattle.axe_words.specs.declared.job.NumberWord.{NumberWord}
use Rattle.axe_words.specs.declared.job.WordsError.{WordsError}
use Rattle.axe_words.specs.declared.job.WordsError.TheVariants as bad
use Rattle.job_meaning.specs.Jobs.{Job as Pair, widths_of}
use Rattle.job_meaning.specs.Trying.{IsDecision, TriedIsComplete, tried}
use Rattle.job_meaning.specs.declared.shown.Shown.{Shown}
use Rattle.job_meaning.specs.declared.shown.Shown.TheVariants as shown
use Rattle.verdict_text.specs.Verdicts.{verdict_of}
use Rattle.verdict_text.specs.declared.verdict.Refusal.{Refusal}
use Rattle.verdict_text.specs.declared.verdict.Verdict.{Verdict}
use Rattle.job_parts.specs.Parts.{Asked, asked_of, Parts, pair_of}
use Rattle.job_parts.specs.Stages.{method_stage, parts_stage}
use Rattle.job_parts.specs.Found.{IsFound, IsGiven, IsSpecFound}
use Rattle.decide.specs.declared.answer.NoAnswer.{NoAnswer}
use Rattle.decide.specs.declared.answer.NoAnswer.TheVariants as none
use Rattle.decide.specs.declared.status.Status.{Status}
use Rattle.decide.specs.declared.status.Status.TheVariants.{Equal, Different, Unknown, Refused, ReadFault, WriteFault, NoMemory}
use Rattle.decide.specs.Answers.{Answer, Answers, IsAnswer, IsJobAnswer, IsRefusal, RefusesWords}
use Rattle.decide.specs.Runs.{status_of, status_without, text, Wrote}
use Rattle.decide.specs.Complete.{Fits, MayBeDecided, IsAnswered, RunIsComplete}

-- ---- words that mean a job aren't refused

some_none : {A : Type 0} (x : A) (o : Option A) → o ≡ Some x → o ≡ None → ⊥
some_none x o p q = let e : Some x ≡ None = sym p ∙ q in cc

none_bad : (given : Text → Option Text) (os : List NumberOption) (ns : List ℕ) (option : NumberWord) → HaveNumbers given os ns → first_bad given os ≡ Some option → ⊥
none_bad given [] ns option h e = cc
none_bad given (o ∷ os) [] option h e = h
none_bad given (o ∷ os) (n ∷ ns) option h e = none_bad given os ns option h.1 (subst (λ (m : Option ℕ). bad_on m o.option (first_bad given os) ≡ Some option) h.0 e)

sizes_none : (given : Text → Option Text) (sizes : List ℕ) (at : ℕ) → sizes_of given ≡ Ok sizes → sizes_of given ≡ Err at → ⊥
sizes_none given sizes at p q = let e : Ok sizes ≡ Err at = sym p ∙ q in cc

rest_same : (a b : List Text) (w : Text) → w ∷ a ≡ w ∷ b → a ≡ b
rest_same a b w e = cc

not_refused_of : (words rest other : List Text) (job : Job) (e : WordsError) → words ≡ codes "prove" ∷ rest → faults rest ≡ [] → IsJobOf (given_by rest) job → IsRefusal e → IsWordsFault words e → ⊥
not_refused_of words rest other (Prove class method spec function desc sizes out budgets) (bad.Unknown word) is none of told fault = fault.1 (ap first_word is)
not_refused_of words rest other (Prove class method spec function desc sizes out budgets) (bad.Refused kind) is none of told fault =
    let same : fault.0 ≡ rest = rest_same fault.0 rest (codes "prove") (sym fault.1 ∙ is) in
    let among : IsAmong kind [] = subst (IsAmong kind) (ap faults same ∙ none) fault.2.0 in
    among
not_refused_of words rest other (Prove class method spec function desc sizes out budgets) (bad.BadNumber option) is none of told fault =
    let same : fault.0 ≡ rest = rest_same fault.0 rest (codes "prove") (sym fault.1 ∙ is) in
    none_bad (given_by rest) (number_options command.Prove) (numbers_of budgets) option of.numbers (subst (λ (r : List Text). first_bad (given_by r) (number_options command.Prove) ≡ Some option) same fault.2.1)
not_refused_of words rest other (Prove class method spec function desc sizes out budgets) (bad.BadSizes at) is none of told fault =
    let same : fault.0 ≡ rest = rest_same fault.0 rest (codes "prove") (sym fault.1 ∙ is) in
    sizes_none (given_by rest) sizes.items at of.sizes_are (subst (λ (r : List Text). sizes_of (given_by r) ≡ Err at) same fault.2.1.1)
not_refused_of words rest other (Prove class method spec function desc sizes out budgets) bad.BadOut is none of told fault =
    let same : fault.0 ≡ rest = rest_same fault.0 rest (codes "prove") (sym fault.1 ∙ is) in
    some_none out (out_of (given_by rest)) of.out_is (subst (λ (r : List Text). out_of (given_by r) ≡ None) same fault.2.1.2)
not_refused_of words rest other (Prove class method spec function desc sizes out budgets) bad.Memory is none of told fault = told

not_refused : (words : List Text) (job : Job) (answer : Answer) → IsJob words job → RefusesWords words answer → ⊥
not_refused words job answer h r = not_refused_of words h.0 h.0 job r.error h.1 h.2 h.3 r.told r.fault

-- ---- what fits is found

content_is : (bytes given : List ℕ) → Some bytes ≡ Some given → given ≡ bytes
content_is bytes given e = cc

given_is : (told : Told) (bytes : List ℕ) (given : Option (List ℕ)) → told ≡ Some (Some bytes) → length bytes ≤ 1048576 → IsGiven told given → given ≡ Some bytes
given_is None bytes given e short h = cc
given_is (Some None) bytes given e short h = cc
given_is (Some (Some other)) bytes None e short h = let same : other ≡ bytes = cc in absurd (let long : 1048576 < length bytes = subst (λ (b : List ℕ). 1048576 < length b) same h in omega (arith, long, short))
given_is (Some (Some other)) bytes (Some given) e short h = let same : other ≡ bytes = cc in ap (λ (b : List ℕ). Some b) (content_is bytes given (let q : Some bytes ≡ Some given = subst (λ (b : List ℕ). Some b ≡ Some given) same h in q))

spec_found : (w : Asked) (holds : List ℕ → Told) (p : Parts) (found : Result Parts Refusal) (fits : Fits w holds p) → IsSpecFound w holds found fits.method → found ≡ Ok p
spec_found w holds p found fits h = h.2 ∙ ap (parts_stage w fits.method) (given_is (holds w.spec) fits.spec h.0 fits.tells_spec fits.short_spec h.1) ∙ fits.has_parts

is_found : (w : Asked) (holds : List ℕ → Told) (p : Parts) (found : Result Parts Refusal) → Fits w holds p → IsFound w holds found → found ≡ Ok p
is_found w holds p found fits h =
    let same = given_is (holds w.class) fits.class h.0 fits.tells_class fits.short_class h.1 in
    let stage : method_stage w h.0 ≡ Ok fits.method = ap (method_stage w) same ∙ fits.has_method in
    spec_found w holds p found fits (let s : IsSpecFound w holds found fits.method = rw stage at h.2 in s)

-- ---- what is tried is decided

abbrev Decides : Verdict → Type 0
Decides verdict = (status_of verdict ≡ Equal) ⊎ (status_of verdict ≡ Different)

decided : (b : Budgets) (bits : ℕ) (found : Option (List ℕ × Shown)) → IsDecision found → Decides (verdict_of b bits found)
decided b bits None h = inl refl
decided b bits (Some (input, shown.Differs end value)) h = inr refl
decided b bits (Some (input, shown.Refused reason method pc)) h = absurd h
decided b bits (Some (input, shown.Outside at reason)) h = absurd h
decided b bits (Some (input, shown.Spends budget)) h = absurd h

job_decided : (w : Asked) (holds : List ℕ → Told) (answer : Answer) → TriedIsComplete → MayBeDecided w holds → IsJobAnswer w holds answer → Decides answer.verdict
job_decided w holds answer complete may h =
    let ok = is_found w holds may.parts h.0 may.fits h.1 in
    let is : IsAnswer w (Ok may.parts) answer = subst (λ (f : Result Parts Refusal). IsAnswer w f answer) ok h.2 in
    let pair : Pair = pair_of w.budgets may.parts in
    subst Decides (sym (is.2.few may.few)) (decided w.budgets (bits_of (widths_of pair)) (tried pair) (complete pair may.settles))

-- ---- runs

status_is : (bytes : List ℕ) (meant : Status) (old new : Option (List ℕ)) (before now : ℕ) (status : Status) → IsAnswered status → Wrote bytes meant old new before now status → status ≡ meant
status_is bytes meant old new before now Equal h w = w.0
status_is bytes meant old new before now Different h w = w.0
status_is bytes meant old new before now Unknown h w = w.0
status_is bytes meant old new before now Refused h w = w.0
status_is bytes meant old new before now ReadFault h w = absurd h
status_is bytes meant old new before now WriteFault h w = absurd h
status_is bytes meant old new before now NoMemory h w = absurd h

not_without : (why : NoAnswer) → IsAnswered (status_without why) → ⊥
not_without none.ReadFault h = h
not_without none.Memory h = h

either : (status : Status) (v : Verdict) → status ≡ status_of v → Decides v → (status ≡ Equal) ⊎ (status ≡ Different)
either status v is (inl e) = inl (is ∙ e)
either status v is (inr e) = inr (is ∙ e)

answered : (words : List (List ℕ)) (holds : List ℕ → Told) (answer : Answer) (job : Job) → TriedIsComplete → IsJob words job → ((other : Job) → IsJob words other → MayBeDecided (asked_of other) holds) → Answers words holds answer → Decides answer.verdict
answered words holds answer job complete is may (inl refuses) = absurd (not_refused words job answer is refuses)
answered words holds answer job complete is may (inr a) = job_decided (asked_of a.job) holds answer complete (may a.job a.means) a.answers

pub complete : TriedIsComplete → RunIsComplete
complete tried words holds rb rn old new before now status (inl ends) job is may faultless = absurd (not_without ends.why (subst IsAnswered ends.is faultless))
complete tried words holds rb rn old new before now status (inr ends) job is may faultless =
    either status ends.answer.verdict
    (status_is (text ends.answer) (status_of ends.answer.verdict) old new before now status faultless ends.wrote)
    (answered words holds ends.answer job tried is may ends.answers)
