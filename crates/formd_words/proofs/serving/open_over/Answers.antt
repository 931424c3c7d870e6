use Rattle.formd_words.proofs.Opened.{by_clauses}
use Rattle.formd_words.proofs.serving.open_over.Goals as goal

pub returns-in-Err-clause-refused : goal.returns-in-Err-clause-refused
returns-in-Err-clause-refused g c =
    let of_it = c.in-Err.ensures in
    by_clauses _ _ _ _ c.in-Err.fault c.from.result c.from.ensures of_it.given of_it.refused (λ is clean. (of_it.other_version is clean).0) of_it.store of_it.left
