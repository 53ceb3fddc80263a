-- What was copied is the front of what was left, and nothing is copied only where nothing was left.
use Rattle.std.proofs.Common.{◌+◌, arith, ap, sym, ◌∙◌, slice_range, length}
use Rattle.std.proofs.lemmas.List.{drop_all}
use Rattle.outside_io.specs.InMemory.{SourceBytes}
use Rattle.outside_io.proofs.Fronts.{reads_front, length-slice_range}
use Rattle.outside_io.proofs.mem_source.MemSourceSource.read.Goals as goal

pub returns-clause-bytes : goal.returns-clause-bytes
returns-clause-bytes c =
    let at = c.self.inside.at in
    let bytes = c.self.inside.bytes.items in
    let count = c.min-count.result in
    let same = c.copy_from_slice.ensures.after ∙ ap (λ xs. slice_range xs at (at + count)) c.deref.ensures.value in (
      sym (ap (λ (s : SourceBytes). s.left) c.self.view_is) ∙ reads_front bytes at count c.copy_from_slice.new.self _ same (ap length same ∙ length-slice_range bytes at count (omega arith)),
      λ none room. drop_all (at + count) bytes (omega arith),
    )
