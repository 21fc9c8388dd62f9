use Rattle.std.proofs.Common.{ℕ, sym, subst, Option}
use Rattle.std.specs.Prelude.{IsSome}
use Rattle.bit_blaster.proofs.Charging.{plain_width_is}
use Rattle.bit_blaster.proofs.charges.width_of.Goals as goal

pub unwrap-requires : goal.unwrap-requires
unwrap-requires c = rw (c.width_by.ensures, c.requires.shape, c.width_at.ensures, c.width_at-2.ensures, c.width_at-3.ensures, c.outline-outline.ensures)
    (subst (λ (o : Option ℕ). IsSome o) (sym (plain_width_is c.args.widths.now c.args.node c.in_default.not-Leaf)) c.requires.fits)
