-- `viewer::file_fetch::boundary_fetch` tells each answer of the fetch, and puts the words about a shape. Assumes nothing.
use Prim.Native.Nat.{◌<◌}
use native.Mathlib.Omega.{arith}
use lib.ListN.{length}
use Rattle.viewer.proofs.Finding.{shown-short, shown-unfound, shown-found}
use Rattle.viewer.proofs.file_fetch.boundary_fetch.Goals as goal

pub returns-then-about-lt4 : goal.returns-then-about-lt4
returns-then-about-lt4 c =
    let a = c.args in
    let h : length a.about.now < 4 = omega (arith, c.if-about-lt4.true) in
    shown-short _ _ _ _ _ _ _ h c.without_room.ensures

pub returns-in-Ok : goal.returns-in-Ok
returns-in-Ok c =
    let short = c.if-about-lt4 in
    let fetch = c.fetch in
    shown-found _ _ _ _ _ _ short.false _ _ _ _ fetch.ensures _ _ c.in-Ok.is c.put_about.ensures

pub returns-in-Err : goal.returns-in-Err
returns-in-Err c =
    let fetch = c.fetch in
    shown-unfound _ _ _ _ _ _ c.if-about-lt4.false _ _ _ _ fetch.ensures _ _ c.in-Err.is c.refusal_word.ensures
