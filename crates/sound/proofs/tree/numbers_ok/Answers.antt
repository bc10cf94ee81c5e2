use Prim.Native.Nat.{◌≤◌}
use mathlib.Core.Bool.{and-true}
use native.Mathlib.Omega.{arith}
use borrow.Author.Tests.{le-leb, ne_eqb}
use Rattle.sound.specs.Tree.{numbers_ok}
use lib.Dec.{leb}
use Rattle.sound.proofs.tree.numbers_ok.Goals as goal

pub returns : goal.returns
unfolding numbers_ok
returns c =
    let n = c.args.n in
    let h : n.pin_count ≤ 4294967295 = omega arith in
    rw (c.from.ensures, c.from-2.ensures, c.from-3.ensures, ne_eqb n.kind 0 c.requires, le-leb n.pin_count 4294967295 h, and-true (leb n.kind 3), and-true)
