-- `search::search::search_good` notes the hits, tests the room, and lists the flags: a law for each return. Assumes nothing.
use Prim.Native.Nat.{ℕ}
use lib.ListN.{length-replicate}
use Rattle.answer.proofs.Outcomes.{fills-refused, handed-on}
use Rattle.search.proofs.Opened.{meets-refusal}
use Rattle.search.proofs.Services.{number-zeros, noted, search-refused, search-no-room, search-counts, search-lists}
use Rattle.search.proofs.search.search_good.Goals as goal

pub returns-in_err-n : goal.returns-in_err-n
returns-in_err-n c =
    rw (handed-on c.from_residual.ensures.1) (fills-refused _ (search-refused _ _ _ _ (meets-refusal _ c.hits_of.ensures _ c.in_err-n.was)))

pub returns-then-out-n : goal.returns-then-out-n
returns-then-out-n c =
    let a = c.args in
    let w = noted a.a a.s.now _ _ _ c.in_ok-n.n c.hits_of.ensures c.in_ok-n.was (number-zeros 32768) (length-replicate {A = ℕ} 32768 0) in
    rw c.because.ensures (search-no-room a.a a.s.now _ c.in_ok-n.n w a.out.now c.if-out-n.true)

pub list_flags-requires : goal.list_flags-requires
list_flags-requires c =
    let a = c.args in
    let w = noted a.a a.s.now _ _ _ c.in_ok-n.n c.hits_of.ensures c.in_ok-n.was (number-zeros 32768) (length-replicate {A = ℕ} 32768 0) in
    (search-counts a.a a.s.now _ c.in_ok-n.n w a.out.now, c.if-out-n.false)

pub returns : goal.returns
returns c =
    let a = c.args in
    let w = noted a.a a.s.now _ _ _ c.in_ok-n.n c.hits_of.ensures c.in_ok-n.was (number-zeros 32768) (length-replicate {A = ℕ} 32768 0) in
    search-lists a.a a.s.now _ c.in_ok-n.n w a.out.now _ c.if-out-n.false c.list_flags.ensures
