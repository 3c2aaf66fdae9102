-- What it means for the lists of a page to be those of a program's slices. Assumes nothing.
use Rattle.le.specs.Number.{Fits}
use Rattle.pageblock.specs.Body.{Handed}

-- each number fits the type of its slice: registers u32, types u8, part counts and part lengths u16, patterns u64
pub record Typed (i : Handed) : Type 0 where
  pub registers : Fits 32 i.registers
  pub types : Fits 8 i.types
  pub counts : Fits 16 i.counts
  pub lens : Fits 16 i.lens
  pub xs : Fits 64 i.xs
  pub ys : Fits 64 i.ys
