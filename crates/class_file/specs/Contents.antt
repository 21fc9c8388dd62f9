-- What a class file holds, as contracts see it.
use Rattle.std.specs.Prelude.{ℕ, List, Option}
use Rattle.class_file.specs.declared.class.Constant.{Constant}
use Rattle.class_file.specs.declared.class.Field.{Field}
use Rattle.class_file.specs.declared.class.Method.{Method}

-- The entry of number k stands at place k - 1 of the pool. Nothing stands at the second number of a long
-- or double.
pub record Contents : Type 0 where
  pub pool : List (Option Constant)
  pub this_class : ℕ
  pub fields : List Field
  pub methods : List Method

-- the contents of these parts
abbrev pub contents : List (Option Constant) → ℕ → List Field → List Method → Contents
contents pool this_class fields methods = record { pool = pool; this_class = this_class; fields = fields; methods = methods }
