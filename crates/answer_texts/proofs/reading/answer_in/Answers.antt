use Rattle.std.proofs.lemmas.Result.{err_from_is_err_and}
use Rattle.answer_texts.proofs.PartsFaults.{sooner, later}
use Rattle.answer_texts.proofs.LibraryLines.{has_library}
use Rattle.answer_texts.proofs.PartsPrinted.{has_table}
use Rattle.answer_texts.proofs.reading.answer_in.Goals as goal

pub returns-in_err-encoding-clause-fault : goal.returns-in_err-encoding-clause-fault
returns-in_err-encoding-clause-fault c =
    let p = err_from_is_err_and c.from_residual-in_err-encoding.result c.from_residual-in_err-encoding.ensures.1 in
    rw (p.1, p.2)
    (later _ _ _ 0 1 c.in_ok-version.version c.in_ok-version.ensures.ok _
    (sooner _ _ _ 1 _ c.in_err-encoding.ensures.fault))

pub returns-in_err-table-clause-fault : goal.returns-in_err-table-clause-fault
returns-in_err-table-clause-fault c =
    let p = err_from_is_err_and c.from_residual-in_err-table.result c.from_residual-in_err-table.ensures.1 in
    rw (p.1, p.2)
    (later _ _ _ 0 1 c.in_ok-version.version c.in_ok-version.ensures.ok _
    (later _ _ _ 1 2 c.in_ok-encoding.encoding c.in_ok-encoding.ensures.ok _
    (sooner _ _ _ 2 _ c.in_err-table.ensures.fault)))

pub read_library-requires : goal.read_library-requires
read_library-requires c =
    (has_table c.args.text.now 2 c.in_ok-table.behind_table (c.in_ok-table.table, c.in_ok-table.builtin)
    c.in_ok-table.ensures.ok).within

pub returns-in_err-library-clause-fault : goal.returns-in_err-library-clause-fault
returns-in_err-library-clause-fault c =
    let p = err_from_is_err_and c.from_residual-in_err-library.result c.from_residual-in_err-library.ensures.1 in
    rw (p.1, p.2)
    (later _ _ _ 0 1 c.in_ok-version.version c.in_ok-version.ensures.ok _
    (later _ _ _ 1 2 c.in_ok-encoding.encoding c.in_ok-encoding.ensures.ok _
    (later _ _ _ 2 c.in_ok-table.behind_table (c.in_ok-table.table, c.in_ok-table.builtin) c.in_ok-table.ensures.ok _
    (sooner _ _ _ c.in_ok-table.behind_table _ c.in_err-library.ensures.fault))))

pub read_goals-requires : goal.read_goals-requires
read_goals-requires c =
    let table = has_table c.args.text.now 2 c.in_ok-table.behind_table (c.in_ok-table.table, c.in_ok-table.builtin)
    c.in_ok-table.ensures.ok in
    (has_library c.args.text.now c.in_ok-table.behind_table c.in_ok-library.middle c.in_ok-library.library table.within
    c.in_ok-library.ensures.ok).within

pub returns-in_err-goals-clause-fault : goal.returns-in_err-goals-clause-fault
returns-in_err-goals-clause-fault c =
    let p = err_from_is_err_and c.from_residual-in_err-goals.result c.from_residual-in_err-goals.ensures.1 in
    rw (p.1, p.2)
    (later _ _ _ 0 1 c.in_ok-version.version c.in_ok-version.ensures.ok _
    (later _ _ _ 1 2 c.in_ok-encoding.encoding c.in_ok-encoding.ensures.ok _
    (later _ _ _ 2 c.in_ok-table.behind_table (c.in_ok-table.table, c.in_ok-table.builtin) c.in_ok-table.ensures.ok _
    (later _ _ _ c.in_ok-table.behind_table c.in_ok-library.middle c.in_ok-library.library c.in_ok-library.ensures.ok _
    (sooner _ _ _ c.in_ok-library.middle _ c.in_err-goals.ensures.fault)))))
