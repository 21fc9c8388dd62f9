-- Each argument was added to the command before it.
use Rattle.std.proofs.Common.{refl}
use Rattle.axe_words.proofs.command.prove_command.Goals as goal

pub returns-clause-arguments : goal.returns-clause-arguments
returns-clause-arguments c = (c.bare-c0.result, c.bare-c0.ensures.empty, (c.in_ok-c1.c1, c.in_ok-c1.ensures.adds, (c.in_ok-c2.c2, c.in_ok-c2.ensures.adds, (c.in_ok-c3.c3, c.in_ok-c3.ensures.adds, (c.in_ok-c4.c4, c.in_ok-c4.ensures.adds, (c.in_ok-c5.c5, c.in_ok-c5.ensures.adds, (c.in_ok-c6.c6, c.in_ok-c6.ensures.adds, (c.in_ok-c7.c7, c.in_ok-c7.ensures.adds, (c.in_ok-c8.c8, c.in_ok-c8.ensures.adds, (c.in_ok-c9.c9, c.in_ok-c9.ensures.adds, (c.in_ok-c10.c10, c.in_ok-c10.ensures.adds, (c.in_ok-c11.c11, c.in_ok-c11.ensures.adds, (c.in_ok-c12.c12, c.in_ok-c12.ensures.adds, (c.in_ok-c13.c13, c.in_ok-c13.ensures.adds, (c.in_ok-c14.c14, c.in_ok-c14.ensures.adds, (c.in_ok-c15.c15, c.in_ok-c15.ensures.adds, (c.in_ok-c16.c16, c.in_ok-c16.ensures.adds, (c.in_ok-c17.c17, c.in_ok-c17.ensures.adds, (c.in_ok-c18.c18, c.in_ok-c18.ensures.adds, (c.in_ok-c19.c19, c.in_ok-c19.ensures.adds, (c.in_ok-c20.c20, c.in_ok-c20.ensures.adds, refl)))))))))))))))))))))
