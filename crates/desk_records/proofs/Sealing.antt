-- What a writer of records holds.
use Rattle.std.proofs.Common.{◌≡◌, ◌≤◌, ◌<◌, ◌⊎◌, inl, inr, ℕ, suc, ◌+◌, true, leb, List, [], ◌++◌, length, take, drop}
use Rattle.std.proofs.Common.{Option, None, Some, is_some, refl, sym, ap, subst, ◌∙◌, arith, append-nil}
use Rattle.std.specs.Prelude.{option_map, IfSome}
use Rattle.std.specs.Io.KnownBytes.{Keeps, Appends}
use Rattle.std.proofs.lemmas.Bool.{cond-true, cond-false, cases_Bool, leb-true, le-leb, false≢true}
use Rattle.std.proofs.lemmas.List.{drop-append-le, length-append, drop_all}
use Rattle.std.proofs.lemmas.Option.{same_Some, none-some}
use Rattle.desk_records.specs.declared.record.TheConstants.{RECORD_BYTES}
use Rattle.desk_records.specs.Records.{RecordRun, record_run, record_bytes, with_first}
use Rattle.desk_records.specs.Streams.{since_first, sealed_bytes, IsKnownStill, IsNextCount, IsWholeRun}
use Rattle.desk_records.specs.Streams.{IsRun}
use Rattle.desk_records.proofs.RunSteps.{run_append, run_none, run_nil, run_of_record}
use Rattle.desk_records.proofs.Rights.{cut_not_right}
use Rattle.std.proofs.KnownBytes.{Keeps-refl}

-- the run that stands there, as an invariant has it
pub record Stands (block : List ℕ) (count : ℕ) (bytes : List ℕ) : Type 0 where
  pub count_is : (record_run block 0 bytes).count ≡ count
  pub rest_is : (record_run block 0 bytes).rest ≡ []

-- after such a run a record is sealed
run_sealed : (block : List ℕ) (count : ℕ) (bytes payload : List ℕ) → Stands block count bytes →
    1 ≤ length payload → length payload ≤ RECORD_BYTES →
    record_run block 0 (bytes ++ record_bytes block count payload)
    ≡ record { given = (record_run block 0 bytes).given ++ payload; count = suc count; rest = [] }
run_sealed block count bytes payload s least most =
    let given = (record_run block 0 bytes).given in
    let record_is = record_bytes block count payload in
    run_append block 0 bytes record_is s.rest_is
    ∙ ap (λ n. with_first given (record_run block n record_is)) s.count_is
    ∙ ap (λ l. with_first given (record_run block count l)) (sym (append-nil record_is))
    ∙ ap (with_first given) (run_of_record block count payload [] least most)
    ∙ ap (λ r. with_first given (with_first payload r)) (run_nil block (suc count))
    ∙ ap (λ l. record { given = given ++ l; count = suc count; rest = [] }) (append-nil payload)

-- after such a run a record is begun
given_cut : (block : List ℕ) (count : ℕ) (bytes payload : List ℕ) (sent : ℕ) → Stands block count bytes →
    length payload ≤ RECORD_BYTES → sent < length (record_bytes block count payload) →
    (record_run block 0 (bytes ++ take sent (record_bytes block count payload))).given
    ≡ (record_run block 0 bytes).given
given_cut block count bytes payload sent s most cut =
    let given = (record_run block 0 bytes).given in
    let part = take sent (record_bytes block count payload) in
    ap (λ (r : RecordRun). r.given) (run_append block 0 bytes part s.rest_is)
    ∙ ap (λ n. given ++ (record_run block n part).given) s.count_is
    ∙ ap (λ (r : RecordRun). given ++ r.given)
    (run_none block count part (cut_not_right block count payload sent most cut))
    ∙ append-nil given

-- what stands after the first bytes grows by what is written
after_grows : (first now more : List ℕ) (bytes : List ℕ) → since_first (Some first) (Some now) ≡ Some bytes →
    since_first (Some first) (Some (now ++ more)) ≡ Some (bytes ++ more)
after_grows first now more bytes e = elim (cases_Bool (leb (length first) (length now))) [
  | inl long ↦
      let within = leb-true (length first) (length now) long in
      let is_drop = same_Some (drop (length first) now) bytes
      (sym (cond-true (leb (length first) (length now)) _ _ long) ∙ e) in
      let longer = le-leb (length first) (length (now ++ more)) (omega (arith, length-append now more)) in
      cond-true (leb (length first) (length (now ++ more))) (Some (drop (length first) (now ++ more))) None longer
      ∙ ap (λ l. Some l) (drop-append-le (length first) now more within)
      ∙ ap (λ l. Some (l ++ more)) is_drop
  | inr short ↦ absurd (none-some bytes (sym (cond-false (leb (length first) (length now)) _ _ short) ∙ e))
]

-- what is known of a writer
abbrev Given : List ℕ → Option (List ℕ) → Option (List ℕ)
Given block after = option_map (λ bytes. (record_run block 0 bytes).given) after

pub record StandsKnown (block : List ℕ) (count : ℕ) (after : Option (List ℕ)) : Type 0 where
  pub count_is : option_map (λ bytes. (record_run block 0 bytes).count) after ≡ option_map (λ bytes. count) after
  pub rest_is : option_map (λ bytes. (record_run block 0 bytes).rest) after ≡ option_map (λ bytes. []) after

-- a known value of an `Option`
some_value : (o : Option (List ℕ)) → is_some o ≡ true → (bytes : List ℕ) × (o ≡ Some bytes)
some_value None h = absurd (false≢true h)
some_value (Some bytes) h = (bytes, refl)

stands_at : (block : List ℕ) (count : ℕ) (after : Option (List ℕ)) (bytes : List ℕ) → after ≡ Some bytes →
    StandsKnown block count after → Stands block count bytes
stands_at block count after bytes e k =
    let at : StandsKnown block count (Some bytes) = subst (StandsKnown block count) e k in
    record { count_is = same_Some _ _ at.count_is; rest_is = same_Some _ _ at.rest_is }

-- a record was sealed
pub record IsSealed (block : List ℕ) (first now new : Option (List ℕ)) (count : ℕ) (payload : List ℕ) : Type 0 where
  pub bytes : Appends (sealed_bytes block first now) (sealed_bytes block first new) payload
  pub known : IsKnownStill first new
  pub next : IsNextCount block first new (count + 1)
  pub whole : IsWholeRun block first new

-- that record, where all is known
sealed_known : (block : List ℕ) (count : ℕ) (payload bytes : List ℕ) → Stands block count bytes →
    1 ≤ length payload → length payload ≤ RECORD_BYTES →
    Appends (Given block (Some bytes)) (Given block (Some (bytes ++ record_bytes block count payload))) payload
    × StandsKnown block (count + 1) (Some (bytes ++ record_bytes block count payload))
sealed_known block count payload bytes s least most =
    let is = run_sealed block count bytes payload s least most in
    let next : suc count ≡ count + 1 = omega arith in (
      ap (λ (r : RecordRun). r.given) is,
      record {
        count_is = ap (λ (r : RecordRun). Some r.count) is ∙ ap (λ (n : ℕ). Some n) next;
        rest_is = ap (λ (r : RecordRun). Some r.rest) is;
      },
    )

pub sealed_more : (block : List ℕ) (first now new : Option (List ℕ)) (count : ℕ) (payload : List ℕ) →
    IsKnownStill first now → IsNextCount block first now count → IsWholeRun block first now →
    1 ≤ length payload → length payload ≤ RECORD_BYTES → Appends now new (record_bytes block count payload) →
    IsSealed block first now new count payload
sealed_more block None now new count payload known next whole least most a =
    record { bytes = tt; known = refl; next = refl; whole = refl }
sealed_more block (Some f) None new count payload known next whole least most a = absurd (false≢true known)
sealed_more block (Some f) (Some x) None count payload known next whole least most a = absurd a
sealed_more block (Some f) (Some x) (Some y) count payload known next whole least most a =
    let old = some_value (since_first (Some f) (Some x)) known in
    let bytes = old.0 in
    let s = stands_at block count (since_first (Some f) (Some x)) bytes old.1
    record { count_is = next; rest_is = whole } in
    let grown : since_first (Some f) (Some y) ≡ Some (bytes ++ record_bytes block count payload) =
    ap (λ l. since_first (Some f) (Some l)) a ∙ after_grows f x (record_bytes block count payload) bytes old.1 in
    let all = sealed_known block count payload bytes s least most in
    let stands : StandsKnown block (count + 1) (since_first (Some f) (Some y)) =
    subst (StandsKnown block (count + 1)) (sym grown) all.1 in
    record {
      bytes = subst (λ o. Appends (Given block o) (Given block (since_first (Some f) (Some y))) payload) (sym old.1)
          (subst (λ o. Appends (Given block (Some bytes)) (Given block o) payload) (sym grown) all.0);
      known = ap is_some grown;
      next = stands.count_is;
      whole = stands.rest_is;
    }

-- a record was begun
pub sealed_cut : (block : List ℕ) (first now new : Option (List ℕ)) (count : ℕ) (payload : List ℕ) (sent : ℕ) →
    IsKnownStill first now → IsNextCount block first now count → IsWholeRun block first now →
    length payload ≤ RECORD_BYTES → sent < length (record_bytes block count payload) →
    Appends now new (take sent (record_bytes block count payload)) →
    Keeps (sealed_bytes block first now) (sealed_bytes block first new)
sealed_cut block None now new count payload sent known next whole most cut a = tt
sealed_cut block (Some f) None new count payload sent known next whole most cut a = absurd (false≢true known)
sealed_cut block (Some f) (Some x) None count payload sent known next whole most cut a = absurd a
sealed_cut block (Some f) (Some x) (Some y) count payload sent known next whole most cut a =
    let part = take sent (record_bytes block count payload) in
    let old = some_value (since_first (Some f) (Some x)) known in
    let bytes = old.0 in
    let s = stands_at block count (since_first (Some f) (Some x)) bytes old.1
    record { count_is = next; rest_is = whole } in
    let grown : since_first (Some f) (Some y) ≡ Some (bytes ++ part) =
    ap (λ l. since_first (Some f) (Some l)) a ∙ after_grows f x part bytes old.1 in
    subst (λ o. Keeps (Given block o) (Given block (since_first (Some f) (Some y)))) (sym old.1)
    (subst (λ o. Keeps (Given block (Some bytes)) (Given block o)) (sym grown)
    (given_cut block count bytes payload sent s most cut))

-- the inner writer keeps what it holds
pub record IsPreserved (block : List ℕ) (first now new : Option (List ℕ)) (count : ℕ) : Type 0 where
  pub known : IsKnownStill first new
  pub next : IsNextCount block first new count
  pub whole : IsWholeRun block first new

pub sealed_preserved : (block : List ℕ) (first now new : Option (List ℕ)) → Keeps now new →
    Keeps (sealed_bytes block first now) (sealed_bytes block first new)
sealed_preserved block None now new k = tt
sealed_preserved block (Some f) None new k = tt
sealed_preserved block (Some f) (Some x) None k = absurd k
sealed_preserved block (Some f) (Some x) (Some y) k =
    rw k (Keeps-refl (sealed_bytes block (Some f) (Some x)))

pub stands_preserved : (block : List ℕ) (first now new : Option (List ℕ)) (count : ℕ) → Keeps now new →
    IsKnownStill first now → IsNextCount block first now count → IsWholeRun block first now →
    IsPreserved block first now new count
stands_preserved block None now new count k known next whole = record { known = refl; next = refl; whole = refl }
stands_preserved block (Some f) None new count k known next whole = absurd (false≢true known)
stands_preserved block (Some f) (Some x) None count k known next whole = absurd k
stands_preserved block (Some f) (Some x) (Some y) count k known next whole =
    record {
      known = subst (λ l. IsKnownStill (Some f) (Some l)) (sym k) known;
      next = subst (λ l. IsNextCount block (Some f) (Some l) count) (sym k) next;
      whole = subst (λ l. IsWholeRun block (Some f) (Some l)) (sym k) whole;
    }

-- a writer to which nothing was sealed yet
pub record IsFresh (block : List ℕ) (first : Option (List ℕ)) : Type 0 where
  pub bytes : sealed_bytes block first first ≡ option_map (λ _. []) first
  pub known : IsKnownStill first first
  pub next : IsNextCount block first first 0
  pub whole : IsWholeRun block first first

after_fresh : (f : List ℕ) → since_first (Some f) (Some f) ≡ Some []
after_fresh f =
    cond-true (leb (length f) (length f)) (Some (drop (length f) f)) None (le-leb (length f) (length f) (omega arith))
    ∙ ap (λ l. Some l) (drop_all (length f) f (omega arith))

pub fresh : (block : List ℕ) (first : Option (List ℕ)) → IsFresh block first
fresh block None = record { bytes = refl; known = refl; next = refl; whole = refl }
fresh block (Some f) =
    let e = after_fresh f in
    let nil = run_nil block 0 in
    record {
      bytes = ap (Given block) e ∙ ap (λ (r : RecordRun). Some r.given) nil;
      known = ap is_some e;
      next = subst (λ o. option_map (λ bytes. (record_run block 0 bytes).count) o ≡ option_map (λ bytes. 0) o) (sym e)
          (ap (λ (r : RecordRun). Some r.count) nil);
      whole = subst (λ o. option_map (λ bytes. (record_run block 0 bytes).rest) o ≡ option_map (λ bytes. []) o) (sym e)
          (ap (λ (r : RecordRun). Some r.rest) nil);
    }

-- the next count holds of what was sealed
pub sealing_after : (block : List ℕ) (first now new : Option (List ℕ)) (count : ℕ) (payload : List ℕ)
    (next : Option ℕ) →
    IfSome next (λ n. n ≡ count + 1) → IsSealed block first now new count payload → IsRun block first new next
sealing_after block first now new count payload None is s = tt
sealing_after block first now new count payload (Some n) is s =
    subst (λ m. IsRun block first new (Some m)) (sym is) (s.known, s.next, s.whole)

-- the inner writer keeps what it holds, and the count stays
pub sealing_preserved : (block : List ℕ) (first now new : Option (List ℕ)) (count : Option ℕ) → Keeps now new →
    IsRun block first now count → IsRun block first new count
sealing_preserved block first now new None k s = tt
sealing_preserved block first now new (Some n) k s =
    let preserved = stands_preserved block first now new n k s.0 s.1 s.2 in
    (preserved.known, preserved.next, preserved.whole)
