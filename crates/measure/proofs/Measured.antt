-- What each way through the calls that measure comes to. Assumes nothing.
use Rattle.std.proofs.Common.{◌≡◌, ℕ, ◌<◌, ◌≤◌, List, length, ap, ◌∙◌, le-leb}
use borrow.Author.Tests.{lt-leb}
use Rattle.answer.specs.Outcome.{answered, Out}
use Rattle.column.specs.Read.{read_of, Decodes}
use Rattle.column.proofs.Decoding.{read-many, read-room, read-decode}
use Rattle.measure.specs.Answers.{number_of}
use Rattle.measure.specs.Scratch.{scratch_left}

module _ (P : ℕ) (s : List ℕ) (n : ℕ) (d : List ℕ) where
  -- 3, and the room stays
  pub many : 2048 < n → (3 ≡ number_of (answered (read_of P s n (length d)))) × (d ≡ scratch_left P s n d)
  unfolding number_of answered scratch_left
  many h = (rw (read-many P s n (length d) h), simp (lt-leb _ _ h))

  -- 2, and the room stays
  pub room : n ≤ 2048 → length d < n → (2 ≡ number_of (answered (read_of P s n (length d)))) × (d ≡ scratch_left P s n d)
  unfolding number_of answered scratch_left
  room h l = (rw (read-room P s n (length d) h l), simp (le-leb _ _ h, lt-leb _ _ l))

  -- otherwise the answer and the room are those of a decoding
  pub decoded : n ≤ 2048 → n ≤ length d → (f : Out ℕ) (new : List ℕ) → Decodes P s n d f new
      → (number_of f ≡ number_of (answered (read_of P s n (length d)))) × (new ≡ scratch_left P s n d)
  unfolding scratch_left
  decoded h l f new q = (ap number_of q.answer ∙ rw (read-decode P s n (length d) h l), q.scratch ∙ simp (le-leb _ _ h, le-leb _ _ l))
