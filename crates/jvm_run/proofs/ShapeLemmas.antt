-- How many parameters a descriptor has, and how many leaves they have.
use Rattle.std.proofs.Common.{◌≡◌, ℕ, suc, ◌+◌, ◌≤◌, Bool, List, [], ◌∷◌, length, Option, Some, None, eqb, true, false, ap, length-append, arith}
use Rattle.std.specs.Prelude.{replicate, if◌then◌else◌}
use Rattle.std.proofs.lemmas.List.{length-replicate}
use Rattle.axe_io.specs.declared.parameters.Param.{Param}
use Rattle.axe_io.specs.Shapes.{leaf_widths, leaf_count, width_of}
use Rattle.jvm_state.specs.declared.types.FieldType.{FieldType}
use Rattle.jvm_state.specs.declared.types.FieldType.TheVariants.{Scalar, Array}
use Rattle.jvm_meaning.specs.declared.types.Letter.{Letter}
use Rattle.jvm_meaning.specs.declared.types.Letter.TheVariants.{Closes, Opens, Names, Unknown}
use Rattle.jvm_meaning.specs.Types.{Types, result_type, letter_of, types_by, types_of, method_type}
use Rattle.jvm_run.specs.Descriptors.{param_of, sizes_behind, params_of, total}

-- a parameter's leaves, and the sizes behind it, are at most the sizes and one leaf
leaves_of : (type : FieldType) (sizes : List ℕ) → leaf_count (param_of type sizes) + total (sizes_behind type sizes) ≤ total sizes + 1
leaves_of (Scalar kind) sizes = omega arith
leaves_of (Array type) [] = omega arith
leaves_of (Array type) (n ∷ ns) = omega arith

widths_more : (p : Param) (params : List Param) → length (leaf_widths (p ∷ params)) ≡ leaf_count p + length (leaf_widths params)
widths_more p params = omega (arith, length-append (replicate (leaf_count p) (width_of p.kind)) (leaf_widths params), length-replicate (leaf_count p) (width_of p.kind))

pub few_leaves : (types : List FieldType) (sizes : List ℕ) → length (leaf_widths (params_of types sizes)) ≤ length types + total sizes
few_leaves [] sizes = omega arith
few_leaves (type ∷ types) sizes =
    omega (arith, few_leaves types (sizes_behind type sizes), leaves_of type sizes, widths_more (param_of type sizes) (params_of types (sizes_behind type sizes)))

abbrev count : Option Types → ℕ
count None = 0
count (Some t) = length t.0

by_letter : (letter : Letter) (result : Option (Option FieldType)) (opened rest : Option Types) (n : ℕ) → count opened ≤ n → count rest ≤ n → count (types_by letter result opened rest) ≤ suc n
by_letter Closes None opened rest n a b = omega arith
by_letter Closes (Some type) opened rest n a b = omega arith
by_letter Opens result opened rest n a b = omega (arith, a)
by_letter (Names type) result opened None n a b = omega arith
by_letter (Names type) result opened (Some t) n a b = omega (arith, b)
by_letter Unknown result opened rest n a b = omega arith

few_types_of : (depth : ℕ) (letters : List ℕ) → count (types_of 1 depth letters) ≤ length letters
few_types_of depth [] = omega arith
few_types_of depth (letter ∷ letters) =
    by_letter (letter_of 1 depth letter) (result_type 1 letters) (types_of 1 (suc depth) letters) (types_of 1 0 letters) (length letters) (few_types_of (suc depth) letters) (few_types_of 0 letters)

opened_few : (test : Bool) (types : Option Types) (n : ℕ) → count types ≤ n → count (if test then types else None) ≤ suc n
opened_few true types n few = omega (arith, few)
opened_few false types n few = omega arith

count_few : (letters : List ℕ) → count (method_type 1 letters) ≤ length letters
count_few [] = omega arith
count_few (letter ∷ letters) = opened_few (eqb letter 40) (types_of 1 0 letters) (length letters) (few_types_of 0 letters)

pub few_types : (letters : List ℕ) (t : Types) → Some t ≡ method_type 1 letters → length t.0 ≤ length letters
few_types letters t is = let same : length t.0 ≡ count (method_type 1 letters) = ap count is in omega (arith, same, count_few letters)
