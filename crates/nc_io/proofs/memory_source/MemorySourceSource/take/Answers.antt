use Rattle.std.proofs.Common.{◌≤◌, ◌+◌, length, arith, drop}
use Rattle.std.proofs.lemmas.List.{drop_all, length-append, length-drop}
use Rattle.nc_io.proofs.MemoryLemmas.{left_after_piece}
use Rattle.nc_io.proofs.memory_source.MemorySourceSource.take.Goals as goal

pub returns-clause-bytes : goal.returns-clause-bytes
returns-clause-bytes c =
    let given = rw c.deref-2.ensures.value at c.copy_from_slice.ensures.after in
    let within : c.args.self.now.at + c.min-count.result ≤ length c.args.self.now.bytes.items =
    omega arith in (
      left_after_piece c.args.self.now.bytes.items c.copy_from_slice.new.self
          (drop c.min-count.result c.args.buf.now) c.args.self.now.at c.min-count.result given
          within,
      λ none some. drop_all (c.args.self.now.at + c.min-count.result) c.args.self.now.bytes.items
          (omega (
            arith,
            length-append c.copy_from_slice.new.self
                (drop c.min-count.result c.args.buf.now),
            length-drop c.min-count.result c.args.buf.now,
          )),
    )
