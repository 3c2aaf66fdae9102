-- The worked numbers marked P hold, each by computing; "one byte with N = 0" for every byte. Assumes nothing.
use mathlib.Core.Path.{refl}
use Prim.Native.Nat.{ℕ}
use Rattle.answer.specs.Outcome.{need}
use Rattle.le.specs.Number.{number, bytes_of}
use Rattle.entry.specs.Step.{zigzag, unzigzag}
use Rattle.entry.specs.Fields.{pack, bits}
use Rattle.entry.specs.Entry.{entries, size_at, value_at, after, values}
use Rattle.width.specs.Width.{zs_after, zs_of, fulls, column_size, least, width_of}
use Rattle.column.specs.Column.{as_bytes, column_at, encode_at, encode}
use Rattle.column.specs.Write.{write_of}
use Rattle.column.specs.Read.{said_by, end_of, entries_within, held_of, end_rules, some_of, decode_of, read_of}
use Rattle.promises.specs.Worked.{EachHolds, last, then, worked_rows}

pub worked : (b : ℕ) → EachHolds (worked_rows b)
unfolding need number bytes_of zigzag unzigzag pack bits entries size_at value_at after values zs_after zs_of fulls column_size least width_of as_bytes column_at encode_at encode write_of said_by end_of entries_within held_of end_rules some_of decode_of read_of
worked b =
    then refl (then refl (then refl (then refl (then refl (then refl (then refl (then refl (then refl (then refl (then refl (then refl (then refl (then refl (then refl (then refl (then refl (then refl (then refl (then refl last)))))))))))))))))))
