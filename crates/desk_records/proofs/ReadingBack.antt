-- What is sealed reads back so.
use Rattle.std.proofs.Common.{◌≡◌, ℕ, suc, ◌+◌, List, [], ◌∷◌, ◌++◌, length, refl, sym, ap, ◌∙◌, arith, append_assoc}
use Rattle.std.specs.Prelude.{flat_map}
use Rattle.std.specs.List.{AllByRecursion}
use Rattle.desk_records.specs.Records.{RecordRun, record_run, record_bytes, with_first}
use Rattle.desk_records.specs.Laws.{IsPayload, records_bytes, ReadsBack}
use Rattle.desk_records.proofs.RunSteps.{run_of_record}

pub reads_back : ReadsBack
reads_back block count [] rest all = ap (λ n. (record_run block n rest).given) (omega arith)
reads_back block count (payload ∷ more) rest all =
    let after = records_bytes block (suc count) more in
    let given = flat_map (λ (p : List ℕ). p) more in
    let counts : suc count + length more ≡ count + suc (length more) = omega arith in
    ap (λ l. (record_run block count l).given) (append_assoc (record_bytes block count payload) after rest)
    ∙ ap (λ (r : RecordRun). r.given) (run_of_record block count payload (after ++ rest) all.0.0 all.0.1)
    ∙ ap (λ l. payload ++ l) (reads_back block (suc count) more rest all.1)
    ∙ sym (append_assoc payload given (record_run block (suc count + length more) rest).given)
    ∙ ap (λ n. (payload ++ given) ++ (record_run block n rest).given) counts
