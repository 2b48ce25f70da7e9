-- Runs of right records, a record at a time.
use Rattle.std.proofs.Common.{◌≡◌, ◌≤◌, ◌<◌, ◌⊎◌, inl, inr, ℕ, zero, suc, ◌+◌, true, false, List, [], ◌++◌, length}
use Rattle.std.proofs.Common.{refl, sym, ap, subst, ◌∙◌, arith, append_assoc}
use Rattle.std.proofs.lemmas.Bool.{cond-true, cond-false, cases_Bool, false_from_ne_true}
use Rattle.std.proofs.lemmas.List.{length-drop}
use Rattle.desk_records.specs.declared.record.TheConstants.{RECORD_BYTES, OTHER_BYTES}
use Rattle.desk_records.specs.Records.{RecordRun, with_first, run_of_most, record_run, is_right}
use Rattle.desk_records.specs.Records.{payload_length, payload_of, after_record, record_bytes}
use Rattle.desk_records.proofs.Rights.{right_parts, right_more, payload_more, after_more}
use Rattle.desk_records.proofs.Rights.{right_of_record, payload_of_record, after_of_record}

-- a run of no record
abbrev pub no_run : ℕ → List ℕ → RecordRun
no_run count bytes = record { given = []; count = count; rest = bytes }

-- bytes that are fewer than a record has beside what it carries are no right record
few_not_right : (block : List ℕ) (count : ℕ) (bytes : List ℕ) → length bytes < OTHER_BYTES →
    is_right block count bytes ≡ false
few_not_right block count bytes few = false_from_ne_true _ (λ h.
    let long : payload_length bytes + OTHER_BYTES ≤ length bytes = (right_parts block count bytes h).long in
    absurd (omega arith))

-- what stands after a right record is shorter
after_shorter : (block : List ℕ) (count : ℕ) (bytes : List ℕ) → is_right block count bytes ≡ true →
    length (after_record bytes) + 1 ≤ length bytes
after_shorter block count bytes h =
    let long : payload_length bytes + OTHER_BYTES ≤ length bytes = (right_parts block count bytes h).long in
    omega (arith, length-drop (payload_length bytes + OTHER_BYTES) bytes)

most_none : (most : ℕ) (block : List ℕ) (count : ℕ) (bytes : List ℕ) → is_right block count bytes ≡ false →
    run_of_most most block count bytes ≡ no_run count bytes
unfolding run_of_most
most_none zero block count bytes h = refl
most_none (suc most) block count bytes h = cond-false (is_right block count bytes) _ _ h

most_step : (most : ℕ) (block : List ℕ) (count : ℕ) (bytes : List ℕ) → is_right block count bytes ≡ true →
    run_of_most (suc most) block count bytes
    ≡ with_first (payload_of bytes) (run_of_most most block (suc count) (after_record bytes))
unfolding run_of_most
most_step most block count bytes h = cond-true (is_right block count bytes) _ _ h

-- how many records a run may have makes wrong difference where there are fewer bytes
enough : (f g : ℕ) (block : List ℕ) (count : ℕ) (bytes : List ℕ) → length bytes ≤ f → length bytes ≤ g →
    run_of_most f block count bytes ≡ run_of_most g block count bytes
enough zero g block count bytes p q =
    let wrong = few_not_right block count bytes (omega arith) in
    most_none zero block count bytes wrong ∙ sym (most_none g block count bytes wrong)
enough (suc f) zero block count bytes p q =
    let wrong = few_not_right block count bytes (omega arith) in
    most_none (suc f) block count bytes wrong ∙ sym (most_none zero block count bytes wrong)
enough (suc f) (suc g) block count bytes p q = elim (cases_Bool (is_right block count bytes)) [
  | inl right ↦
      let shorter = after_shorter block count bytes right in
      most_step f block count bytes right
      ∙ ap (with_first (payload_of bytes))
      (enough f g block (suc count) (after_record bytes) (omega arith) (omega arith))
      ∙ sym (most_step g block count bytes right)
  | inr wrong ↦ most_none (suc f) block count bytes wrong ∙ sym (most_none (suc g) block count bytes wrong)
]

-- no right record begins here
pub run_none : (block : List ℕ) (count : ℕ) (bytes : List ℕ) → is_right block count bytes ≡ false →
    record_run block count bytes ≡ no_run count bytes
run_none block count bytes wrong = most_none (length bytes) block count bytes wrong

pub run_nil : (block : List ℕ) (count : ℕ) → record_run block count [] ≡ no_run count []
run_nil block count = run_none block count [] (few_not_right block count [] (omega arith))

-- a right record begins here
pub run_step : (block : List ℕ) (count : ℕ) (bytes : List ℕ) → is_right block count bytes ≡ true →
    record_run block count bytes ≡ with_first (payload_of bytes) (record_run block (suc count) (after_record bytes))
run_step block count bytes right =
    let shorter = after_shorter block count bytes right in
    enough (length bytes) (suc (length bytes)) block count bytes (omega arith) (omega arith)
    ∙ most_step (length bytes) block count bytes right
    ∙ ap (with_first (payload_of bytes))
    (enough (length bytes) (length (after_record bytes)) block (suc count) (after_record bytes)
    (omega arith) (omega arith))

-- a right record with more after it
pub run_more : (block : List ℕ) (count : ℕ) (xs ys : List ℕ) → is_right block count xs ≡ true →
    record_run block count (xs ++ ys)
    ≡ with_first (payload_of xs) (record_run block (suc count) (after_record xs ++ ys))
run_more block count xs ys right =
    run_step block count (xs ++ ys) (right_more block count xs ys right)
    ∙ ap (λ l. with_first l (record_run block (suc count) (after_record (xs ++ ys))))
    (payload_more block count xs ys right)
    ∙ ap (λ l. with_first (payload_of xs) (record_run block (suc count) l)) (after_more block count xs ys right)

-- a sealed record with more after it
pub run_of_record : (block : List ℕ) (count : ℕ) (payload ys : List ℕ) → 1 ≤ length payload →
    length payload ≤ RECORD_BYTES →
    record_run block count (record_bytes block count payload ++ ys)
    ≡ with_first payload (record_run block (suc count) ys)
run_of_record block count payload ys least most =
    run_more block count (record_bytes block count payload) ys (right_of_record block count payload least most)
    ∙ ap (λ l. with_first l (record_run block (suc count) (after_record (record_bytes block count payload) ++ ys)))
    (payload_of_record block count payload most)
    ∙ ap (λ l. with_first payload (record_run block (suc count) (l ++ ys))) (after_of_record block count payload most)

-- a run that leaves nothing goes on with what comes after
abbrev Goes : List ℕ → RecordRun → List ℕ → RecordRun
Goes block run ys = with_first run.given (record_run block run.count ys)

joined : (block : List ℕ) (payload : List ℕ) (run : RecordRun) (ys : List ℕ) →
    with_first payload (Goes block run ys) ≡ Goes block (with_first payload run) ys
joined block payload run ys = ap (λ (l : List ℕ). record {
  given = l;
  count = (record_run block run.count ys).count;
  rest = (record_run block run.count ys).rest;
}) (sym (append_assoc payload run.given (record_run block run.count ys).given))

-- there is no run before it
go_none : (block : List ℕ) (count : ℕ) (xs ys : List ℕ) → (record_run block count xs).rest ≡ [] →
    is_right block count xs ≡ false → record_run block count (xs ++ ys) ≡ Goes block (record_run block count xs) ys
go_none block count xs ys none wrong =
    let stops = run_none block count xs wrong in
    let nothing : xs ≡ [] = sym (ap (λ (r : RecordRun). r.rest) stops) ∙ none in
    ap (λ l. record_run block count (l ++ ys)) nothing ∙ sym (ap (λ r. Goes block r ys) stops)

go_on : (most : ℕ) (block : List ℕ) (count : ℕ) (xs ys : List ℕ) → length xs ≤ most →
    (record_run block count xs).rest ≡ [] →
    record_run block count (xs ++ ys) ≡ Goes block (record_run block count xs) ys
go_on zero block count xs ys within none = go_none block count xs ys none (few_not_right block count xs (omega arith))
go_on (suc most) block count xs ys within none = elim (cases_Bool (is_right block count xs)) [
  | inr wrong ↦ go_none block count xs ys none wrong
  | inl right ↦
      let shorter = after_shorter block count xs right in
      let steps = run_step block count xs right in
      let rest : (record_run block (suc count) (after_record xs)).rest ≡ [] =
      sym (ap (λ (r : RecordRun). r.rest) steps) ∙ none in
      run_more block count xs ys right
      ∙ ap (with_first (payload_of xs)) (go_on most block (suc count) (after_record xs) ys (omega arith) rest)
      ∙ joined block (payload_of xs) (record_run block (suc count) (after_record xs)) ys
      ∙ sym (ap (λ r. Goes block r ys) steps)
]

pub run_append : (block : List ℕ) (count : ℕ) (xs ys : List ℕ) → (record_run block count xs).rest ≡ [] →
    record_run block count (xs ++ ys)
    ≡ with_first (record_run block count xs).given (record_run block (record_run block count xs).count ys)
run_append block count xs ys none = go_on (length xs) block count xs ys (omega arith) none

-- a run ends where no right record of its count begins
abbrev EndsWrong : List ℕ → RecordRun → Type 0
EndsWrong block run = is_right block run.count run.rest ≡ false

ends_wrong : (most : ℕ) (block : List ℕ) (count : ℕ) (bytes : List ℕ) → length bytes ≤ most →
    EndsWrong block (run_of_most most block count bytes)
ends_wrong zero block count bytes within =
    let wrong = few_not_right block count bytes (omega arith) in
    subst (EndsWrong block) (sym (most_none zero block count bytes wrong)) wrong
ends_wrong (suc most) block count bytes within = elim (cases_Bool (is_right block count bytes)) [
  | inr wrong ↦ subst (EndsWrong block) (sym (most_none (suc most) block count bytes wrong)) wrong
  | inl right ↦
      let shorter = after_shorter block count bytes right in
      subst (EndsWrong block) (sym (most_step most block count bytes right))
      (ends_wrong most block (suc count) (after_record bytes) (omega arith))
]

pub run_ends : (block : List ℕ) (count : ℕ) (bytes : List ℕ) →
    is_right block (record_run block count bytes).count (record_run block count bytes).rest ≡ false
run_ends block count bytes = ends_wrong (length bytes) block count bytes (omega arith)
