-- What a replica has committed, as it goes on and is published.
use Rattle.std.proofs.Common.{◌≡◌, ◌≢◌, ◌≤◌, ◌++◌, ◌∙◌, ℕ, zero, suc, List, [], ◌∷◌, length, take, refl, sym, ap}
use Rattle.std.proofs.Common.{subst, append_assoc, append-nil, arith, length-append, ◌⊎◌, inl, inr}
use Rattle.std.proofs.Common.{drop}
use mathlib.Core.List.{IsPrefix}
use Rattle.desk_types.specs.declared.command.Entry.{Entry}
use Rattle.desk_types.specs.declared.epoch_packet.EpochPacket.{EpochPacket}
use Rattle.desk_published.specs.Writer.{EqualsPrefix, followed_by}
use Rattle.desk_published.proofs.PrefixEquations.{front_goes_on, is_front, is_prefix, length_followed, prefix_trans}
use Rattle.desk_replica.specs.Saving.{Saving, LogsGoOn, ForgetsReported, BeginsEpoch, HasSameLogs}
use Rattle.desk_replica.specs.Saving.{MayForget, MayBegin, MayPrepare, Advances, StaysSaved}
use Rattle.desk_replica.specs.Saving.{after_base, entries_or, to_publish}
use Rattle.desk_threads.specs.Noted.{IsNoted, PublishesOn, replica_history}

pub goes_then : {R : Type 0} (s : Saving R) (old mid new : R) → LogsGoOn s old mid →
    LogsGoOn s mid new → LogsGoOn s old new
goes_then s old mid new a b = record {
  owner = b.owner ∙ a.owner;
  base = b.base ∙ a.base;
  after = prefix_trans (after_base s old) (after_base s mid) (after_base s new) a.after b.after;
  next = prefix_trans (to_publish s old) (to_publish s mid) (to_publish s new) a.next b.next;
  stands = λ past is. b.stands past (a.stands past is);
}

after_front : (front xs ys : List Entry) → IsPrefix xs ys → IsPrefix (front ++ xs) (front ++ ys)
after_front front xs ys p = (p.0, append_assoc front xs p.0 ∙ ap (λ w. front ++ w) p.1)

followed_on : (b c : ℕ) (noted xs ys : List Entry) → c ≡ b → IsPrefix xs ys →
    IsPrefix (followed_by b noted xs) (followed_by c noted ys)
followed_on b c noted xs ys same p =
    subst (λ n. IsPrefix (take b noted ++ xs) (take n noted ++ ys)) (sym same) (after_front (take b noted) xs ys p)

history_on : {R : Type 0} (s : Saving R) (old new : R) (noted : List Entry) → LogsGoOn s old new →
    IsPrefix (replica_history s old noted) (replica_history s new noted)
history_on s old new noted on =
    followed_on (s.base old) (s.base new) noted (after_base s old) (after_base s new) on.base on.after

-- what begins what was committed begins it later too
pub front_on : {R : Type 0} (s : Saving R) (old new : R) (noted front : List Entry) → LogsGoOn s old new →
    EqualsPrefix front (replica_history s old noted) → EqualsPrefix front (replica_history s new noted)
front_on s old new noted front on is =
    front_goes_on front (replica_history s old noted) (replica_history s new noted) is (history_on s old new noted on)

pub noted_on : {R : Type 0} (s : Saving R) (old new : R) (noted : List Entry) → LogsGoOn s old new →
    IsNoted s old noted → IsNoted s new noted
noted_on s old new noted on is = record {
  past_noted = subst (λ b. b ≤ length noted) (sym on.base) is.past_noted;
  past_is = subst (λ b. s.stands new (take b noted)) (sym on.base) (on.stands (take (s.base old) noted) is.past_is);
  next = front_goes_on noted (followed_by (s.base old) noted (to_publish s old))
      (followed_by (s.base new) noted (to_publish s new)) is.next
      (followed_on (s.base old) (s.base new) noted (to_publish s old) (to_publish s new) on.base on.next);
  begins = front_on s old new noted noted on is.begins;
}

-- the first entries of a list are those of a prefix of it that has them
take_front : (b : ℕ) (xs ys front : List Entry) → b ≤ length xs → b ≤ length front →
    IsPrefix front (take b xs ++ ys) → take b front ≡ take b xs
take_front zero xs ys front many few p = refl
take_front (suc b) [] ys front many few p = absurd (omega (arith, many))
take_front (suc b) (x ∷ xs) ys [] many few p = absurd (omega (arith, few))
take_front (suc b) (x ∷ xs) ys (y ∷ front) many few p =
    let r = take_front b xs ys front (omega (arith, many)) (omega (arith, few)) (p.0, cc p.1) in
    cc (p.1, r)

-- as the first entries of a prefix are those of the list
take_within : (b : ℕ) (front list : List Entry) → b ≤ length front → IsPrefix front list →
    take b front ≡ take b list
take_within zero front list few p = refl
take_within (suc b) [] list few p = absurd (omega (arith, few))
take_within (suc b) (x ∷ front) [] few p = absurd (omega (arith, ap length p.1))
take_within (suc b) (x ∷ front) (y ∷ list) few p =
    let r = take_within b front list (omega (arith, few)) (p.0, cc p.1) in
    cc (p.1, r)

-- where the logs of its past are published, they are the same first entries of what is published and of what is noted
pub shown_history : {R : Type 0} (s : Saving R) (r : R) (shown noted : List Entry) → s.base r ≤ length shown →
    EqualsPrefix shown noted → replica_history s r noted ≡ replica_history s r shown
shown_history s r shown noted few held =
    ap (λ (front : List Entry). front ++ after_base s r)
    (sym (take_within (s.base r) shown noted few (is_prefix shown noted held)))

-- so what is published then goes on
pub publishes_on : {R : Type 0} (s : Saving R) (r : R) (noted shown now : List Entry) → s.base r ≤ length shown →
    EqualsPrefix shown noted → IsNoted s r noted → IsPrefix now (replica_history s r shown) →
    PublishesOn s r shown now
publishes_on s r noted shown now few held of within = record {
  reached = few;
  stands = subst (s.stands r) (sym (take_within (s.base r) shown noted few (is_prefix shown noted held))) of.past_is;
  shown = within;
}

-- and so it does after what it had committed went on
pub publishes_then : {R : Type 0} (s : Saving R) (old mid : R) (noted shown now : List Entry) → LogsGoOn s old mid →
    IsNoted s old noted → s.base old ≤ length shown → EqualsPrefix shown noted →
    IsPrefix now (replica_history s mid shown) → PublishesOn s mid shown now
publishes_then s old mid noted shown now on of few held within =
    publishes_on s mid noted shown now (subst (λ b. b ≤ length shown) (sym on.base) few) held
    (noted_on s old mid noted on of) within

pub reached_on : (b : ℕ) (old now : List Entry) → b ≤ length old → IsPrefix old now → b ≤ length now
reached_on b old now few p = omega (arith, few, ap length p.1, length-append old p.0)

-- what is to be published begins what was committed after the past
publish_first : (reported cut : List Entry) → IsPrefix (entries_or reported cut) (reported ++ cut)
publish_first [] cut = ([], append-nil cut)
publish_first (entry ∷ more) cut = (cut, refl)

noted_now : {R : Type 0} (s : Saving R) (r : R) (noted now : List Entry) → IsNoted s r noted →
    s.base r ≤ length now → EqualsPrefix now (followed_by (s.base r) noted (to_publish s r)) →
    IsNoted s r now × (replica_history s r noted ≡ replica_history s r now)
noted_now s r noted now of there begun =
    let next = to_publish s r in
    let same : take (s.base r) now ≡ take (s.base r) noted =
    take_front (s.base r) noted next now of.past_noted there
    (is_prefix now (followed_by (s.base r) noted next) begun) in
    let all : replica_history s r noted ≡ replica_history s r now = ap (λ front. front ++ after_base s r) (sym same) in
    let now_next : EqualsPrefix now (followed_by (s.base r) now next) =
    subst (λ (list : List Entry). EqualsPrefix now (list ++ next)) (sym same) begun in (
      record {
        past_noted = there;
        past_is = subst (s.stands r) (sym same) of.past_is;
        next = now_next;
        begins = front_goes_on now (followed_by (s.base r) now next) (replica_history s r now) now_next
            (after_front (take (s.base r) now) next (after_base s r) (publish_first (s.reported r) (s.cut r)));
      },
      all,
    )

given_is : {R : Type 0} (s : Saving R) (r : R) (b : ℕ) (list next noted : List Entry) → b ≡ s.base r → list ≡ next →
    followed_by b noted list ≡ followed_by (s.base r) noted next
given_is s r b list next noted at is = ap (λ n. take n noted ++ list) at ∙ ap (λ c. take (s.base r) noted ++ c) is

-- what a publish asks for
pub before_publish : {R : Type 0} (s : Saving R) (r : R) (b : ℕ) (list noted : List Entry) → b ≡ s.base r →
    list ≡ to_publish s r → IsNoted s r noted → (b ≤ length noted) × EqualsPrefix noted (followed_by b noted list)
before_publish s r b list noted at is of = (
  subst (λ n. n ≤ length noted) (sym at) of.past_noted,
  subst (λ (all : List Entry). EqualsPrefix noted all) (sym (given_is s r b list (to_publish s r) noted at is)) of.next,
)

-- and what it leaves
pub after_publish : {R : Type 0} (s : Saving R) (r : R) (b : ℕ) (list noted now : List Entry) → b ≡ s.base r →
    list ≡ to_publish s r → IsNoted s r noted → b ≤ length now → EqualsPrefix now (followed_by b noted list) →
    IsNoted s r now × (replica_history s r noted ≡ replica_history s r now)
after_publish s r b list noted now at is of there begun =
    noted_now s r noted now of (subst (λ k. k ≤ length now) at there)
    (subst (λ (all : List Entry). EqualsPrefix now all) (given_is s r b list (to_publish s r) noted at is) begun)

entries_first : (reported cut : List Entry) → length reported ≢ 0 → reported ≡ entries_or reported cut
entries_first [] cut some = absurd (some refl)
entries_first (entry ∷ more) cut some = refl

-- a log that was reported is to be published where it has entries
pub reported_next : {R : Type 0} (s : Saving R) (r : R) (list : List Entry) → list ≡ s.reported r → length list ≢ 0 →
    list ≡ to_publish s r
reported_next s r list is some = is ∙ entries_first (s.reported r) (s.cut r) (λ none. some (ap length is ∙ none))

no_entries : (list : List Entry) → length list ≡ 0 → list ≡ []
no_entries [] none = refl
no_entries (entry ∷ more) none = absurd (omega (arith, none))

-- and else what was committed after it
pub cut_next : {R : Type 0} (s : Saving R) (r : R) (list noted : List Entry) (b : ℕ) → s.reported r ≡ [] →
    list ≡ s.cut r → b ≡ s.base r → (list ≡ to_publish s r) × (followed_by b noted list ≡ replica_history s r noted)
cut_next s r list noted b none is at = (
  is ∙ ap (λ (reported : List Entry). entries_or reported (s.cut r)) (sym none),
  ap (λ n. take n noted ++ list) at ∙ ap (λ c. take (s.base r) noted ++ c) is
      ∙ ap (λ (reported : List Entry). take (s.base r) noted ++ (reported ++ s.cut r)) (sym none),
)

-- Where all of the log that was reported is noted, it is one of the past from then on.
forgets_noted : {R : Type 0} (s : Saving R) (old new : R) (noted now : List Entry) → ForgetsReported s old new →
    IsNoted s old noted → IsPrefix (followed_by (s.base old) noted (s.reported old)) now →
    EqualsPrefix now (replica_history s old noted) →
    IsNoted s new now × (replica_history s old noted ≡ replica_history s new now)
forgets_noted s old new noted now f of p begun =
    let front : List Entry = followed_by (s.base old) noted (s.reported old) in
    let count : length front ≡ s.base new =
    length_followed (s.base old) noted (s.reported old) of.past_noted ∙ sym f.base in
    let same : front ≡ take (s.base new) now = is_front front now p ∙ ap (λ n. take n now) count in
    let none : s.cut new ≡ after_base s new = ap (λ (list : List Entry). list ++ s.cut new) (sym f.reported) in
    let next : s.cut new ≡ to_publish s new =
    ap (λ (list : List Entry). entries_or list (s.cut new)) (sym f.reported) in
    let all : replica_history s old noted ≡ take (s.base new) now ++ s.cut new =
    sym (append_assoc (take (s.base old) noted) (s.reported old) (s.cut old))
    ∙ ap (λ (list : List Entry). list ++ s.cut old) same
    ∙ ap (λ (list : List Entry). take (s.base new) now ++ list) (sym f.cut) in
    let history : replica_history s old noted ≡ replica_history s new now =
    all ∙ ap (λ (list : List Entry). take (s.base new) now ++ list) none in (
      record {
        past_noted = omega (arith, count, ap length p.1, length-append front p.0);
        past_is = subst (s.stands new) same (f.stands (take (s.base old) noted) of.past_is);
        next = subst (λ (list : List Entry). EqualsPrefix now list)
            (all ∙ ap (λ (list : List Entry). take (s.base new) now ++ list) next) begun;
        begins = subst (λ (list : List Entry). EqualsPrefix now list) history begun;
      },
      history,
    )

take_drop : (n : ℕ) (xs : List Entry) → take n xs ++ drop n xs ≡ xs
take_drop zero xs = refl
take_drop (suc n) [] = refl
take_drop (suc n) (x ∷ xs) = ap (λ w. x ∷ w) (take_drop n xs)

-- nothing was reported
pub forgets_nothing : {R : Type 0} (s : Saving R) (old new : R) (list noted : List Entry) → list ≡ s.reported old →
    length list ≡ 0 → ForgetsReported s old new → IsNoted s old noted →
    IsNoted s new noted × (replica_history s old noted ≡ replica_history s new noted)
forgets_nothing s old new list noted is none f of =
    let empty : s.reported old ≡ [] = sym is ∙ no_entries list none in
    forgets_noted s old new noted noted f of (
      drop (s.base old) noted,
      ap (λ (list : List Entry). (take (s.base old) noted ++ list) ++ drop (s.base old) noted) empty
          ∙ ap (λ (list : List Entry). list ++ drop (s.base old) noted) (append-nil (take (s.base old) noted))
          ∙ take_drop (s.base old) noted,
    )
    of.begins

-- all of what was reported is published
pub forgets_published : {R : Type 0} (s : Saving R) (old new : R) (b : ℕ) (list noted now shown : List Entry) →
    b ≡ s.base old → list ≡ s.reported old → ForgetsReported s old new → IsNoted s old noted →
    IsNoted s old now → replica_history s old noted ≡ replica_history s old now → shown ≡ followed_by b noted list →
    IsPrefix shown now → IsNoted s new now × (replica_history s old now ≡ replica_history s new now)
forgets_published s old new b list noted now shown at is f of of_now history whole held =
    let all : shown ≡ followed_by (s.base old) noted (s.reported old) =
    whole ∙ given_is s old b list (s.reported old) noted at is in
    let n = forgets_noted s old new noted now f of (subst (λ (w : List Entry). IsPrefix w now) all held)
    (subst (λ (w : List Entry). EqualsPrefix now w) (sym history) of_now.begins) in
    (n.0, sym history ∙ n.1)

-- what is a prefix of a list and is that list with more is that list
no_more : (xs front more : List Entry) → IsPrefix xs front → xs ≡ front ++ more → xs ≡ front
no_more xs front [] p e = e ∙ append-nil front
no_more xs front (x ∷ more) p e = absurd (omega (
  arith,
  ap length p.1,
  length-append xs p.0,
  ap length e,
  length-append front (x ∷ more),
))

-- where not all of a log that was reported is published, not all is that was committed
pub reported_lags : {R : Type 0} (s : Saving R) (r : R) (b : ℕ) (list noted now shown : List Entry) → b ≡ s.base r →
    list ≡ s.reported r → replica_history s r noted ≡ replica_history s r now →
    IsPrefix shown (followed_by b noted list) → shown ≢ followed_by b noted list → shown ≢ replica_history s r now
reported_lags s r b list noted now shown at is history within missing = λ all.
    let front = followed_by b noted list in
    let given : front ≡ followed_by (s.base r) noted (s.reported r) = given_is s r b list (s.reported r) noted at is in
    missing (no_more shown front (s.cut r) within
    (all ∙ sym history ∙ sym (append_assoc (take (s.base r) noted) (s.reported r) (s.cut r))
    ∙ ap (λ (w : List Entry). w ++ s.cut r) (sym given)))

-- what is published of a log that was reported is of what was committed
pub reported_within : {R : Type 0} (s : Saving R) (r : R) (b : ℕ) (list noted now shown : List Entry) → b ≡ s.base r →
    list ≡ s.reported r → replica_history s r noted ≡ replica_history s r now →
    IsPrefix shown (followed_by b noted list) → IsPrefix shown (replica_history s r now)
reported_within s r b list noted now shown at is history within =
    let given = given_is s r b list (s.reported r) noted at is in
    prefix_trans shown (followed_by b noted list) (replica_history s r now) within
    (subst (λ (w : List Entry). IsPrefix (followed_by b noted list) w) history
    (subst (λ (w : List Entry). IsPrefix w (replica_history s r noted)) (sym given)
    (s.cut r, append_assoc (take (s.base r) noted) (s.reported r) (s.cut r))))

-- what is told of all that a keeper makes of a replica that is saved
pub record AdvanceLaws {R : Type 0} (s : Saving R) : Type 0 where
  pub forgotten : (old new : R) → s.forgets old new → ForgetsReported s old new
  pub begun : (old new : R) (packets : List (ℕ × EpochPacket)) → s.begins old packets new →
      BeginsEpoch s old new × StaysSaved s old new
  pub prepared : (old new : R) → s.prepares old new →
      HasSameLogs s old new × (s.is_saved old → s.is_saved new) × s.keeps old new

-- After it forgot a log that was reported it is the same member,
pub forget_owner : {R : Type 0} (s : Saving R) → AdvanceLaws s → (old new : R) → MayForget s old new →
    s.owner new ≡ s.owner old
forget_owner s laws old new (inl same) = ap s.owner same
forget_owner s laws old new (inr forgets) = (laws.forgotten old new forgets).owner

-- its state is the one that was saved last,
pub forget_saved : {R : Type 0} (s : Saving R) → AdvanceLaws s → (old new : R) → MayForget s old new →
    s.is_saved old → s.is_saved new
forget_saved s laws old new (inl same) is = subst s.is_saved (sym same) is
forget_saved s laws old new (inr forgets) is = (laws.forgotten old new forgets).saved is

-- and what its store is to keep stood.
pub forget_keeps : {R : Type 0} (s : Saving R) → ((a : R) → s.keeps a a) → AdvanceLaws s → (old new : R) →
    MayForget s old new → s.keeps old new
forget_keeps s still laws old new (inl same) = subst (s.keeps old) (sym same) (still old)
forget_keeps s still laws old new (inr forgets) = (laws.forgotten old new forgets).keeps

-- Both stand after a time when they stood over the one before.
pub forget_stays : {R : Type 0} (s : Saving R) → ((a b c : R) → s.keeps a b → s.keeps b c → s.keeps a c) →
    ((a : R) → s.keeps a a) → AdvanceLaws s → (old mid new : R) → MayForget s mid new → StaysSaved s old mid →
    StaysSaved s old new
forget_stays s further still laws old mid new forgets stays = (
  forget_saved s laws mid new forgets stays.0,
  further old mid new stays.1 (forget_keeps s still laws mid new forgets),
)

-- And so after it began an epoch,
pub begin_stays : {R : Type 0} (s : Saving R) → ((a : R) → s.keeps a a) → AdvanceLaws s → (old new : R)
    (packets : List (ℕ × EpochPacket)) → MayBegin s old packets new → s.is_saved old → StaysSaved s old new
begin_stays {R} s still laws old new packets (inl (none, same)) is =
    subst (λ (r : R). StaysSaved s old r) (sym same) (is, still old)
begin_stays s still laws old new packets (inr begins) is = (laws.begun old new packets begins).1

-- prepared a beginning,
pub prepare_stays : {R : Type 0} (s : Saving R) → ((a : R) → s.keeps a a) → AdvanceLaws s → (old new : R) →
    MayPrepare s old new → s.is_saved old → StaysSaved s old new
prepare_stays {R} s still laws old new (inl same) is =
    subst (λ (r : R). StaysSaved s old r) (sym same) (is, still old)
prepare_stays s still laws old new (inr prepares) is =
    let law = laws.prepared old new prepares in (law.1 is, law.2)

-- or did both.
pub advance_stays : {R : Type 0} (s : Saving R) → ((a b c : R) → s.keeps a b → s.keeps b c → s.keeps a c) →
    ((a : R) → s.keeps a a) → AdvanceLaws s → (old mid new : R) (packets : List (ℕ × EpochPacket)) →
    Advances s mid packets new → StaysSaved s old mid → StaysSaved s old new
advance_stays s further still laws old mid new packets (begun, begins, prepares) stays =
    let a = begin_stays s still laws mid begun packets begins stays.0 in
    let b = prepare_stays s still laws begun new prepares a.0 in
    (b.0, further old mid new stays.1 (further mid begun new a.1 b.1))

-- Where all that it has committed is noted, and it begins the next epoch, that is noted as its past.
pub begins_noted : {R : Type 0} (s : Saving R) (old new : R) (noted : List Entry) → BeginsEpoch s old new →
    IsNoted s old noted → IsPrefix (replica_history s old noted) noted →
    IsNoted s new noted × (replica_history s old noted ≡ replica_history s new noted)
begins_noted s old new noted b of p =
    let front : List Entry = followed_by (s.base old) noted (s.cut old) in
    let was : replica_history s old noted ≡ front =
    ap (λ (list : List Entry). take (s.base old) noted ++ (list ++ s.cut old)) b.none in
    let held : IsPrefix front noted = subst (λ (w : List Entry). IsPrefix w noted) was p in
    let count : length front ≡ s.base new =
    length_followed (s.base old) noted (s.cut old) of.past_noted ∙ sym b.base in
    let same : front ≡ take (s.base new) noted = is_front front noted held ∙ ap (λ n. take n noted) count in
    let next : [] ≡ to_publish s new =
    ap (λ (list : List Entry). entries_or list []) (sym b.reported)
    ∙ ap (λ (list : List Entry). entries_or (s.reported new) list) (sym b.cut) in
    let none : [] ≡ after_base s new =
    ap (λ (list : List Entry). list ++ []) (sym b.reported)
    ∙ ap (λ (list : List Entry). s.reported new ++ list) (sym b.cut) in
    let start : front ≡ take (s.base new) noted ++ [] = same ∙ sym (append-nil (take (s.base new) noted)) in
    let history : replica_history s old noted ≡ replica_history s new noted =
    was ∙ start ∙ ap (λ (list : List Entry). take (s.base new) noted ++ list) none in (
      record {
        past_noted = omega (arith, count, ap length held.1, length-append front held.0);
        past_is = subst (s.stands new) same (b.stands (take (s.base old) noted) of.past_is);
        next = subst (λ (list : List Entry). EqualsPrefix noted list)
            (was ∙ start ∙ ap (λ (list : List Entry). take (s.base new) noted ++ list) next) of.begins;
        begins = subst (λ (list : List Entry). EqualsPrefix noted list) history of.begins;
      },
      history,
    )

-- Where its logs are as they were, they are noted as before.
pub same_noted : {R : Type 0} (s : Saving R) (old new : R) (noted : List Entry) → HasSameLogs s old new →
    IsNoted s old noted → IsNoted s new noted × (replica_history s old noted ≡ replica_history s new noted)
same_noted s old new noted same of =
    let history : replica_history s old noted ≡ replica_history s new noted =
    ap (λ n. take n noted ++ (s.reported old ++ s.cut old)) (sym same.base)
    ∙ ap (λ (list : List Entry). take (s.base new) noted ++ (list ++ s.cut old)) (sym same.reported)
    ∙ ap (λ (list : List Entry). take (s.base new) noted ++ (s.reported new ++ list)) (sym same.cut) in
    let next : followed_by (s.base old) noted (to_publish s old) ≡ followed_by (s.base new) noted (to_publish s new) =
    ap (λ n. take n noted ++ entries_or (s.reported old) (s.cut old)) (sym same.base)
    ∙ ap (λ (list : List Entry). take (s.base new) noted ++ entries_or list (s.cut old)) (sym same.reported)
    ∙ ap (λ (list : List Entry). take (s.base new) noted ++ entries_or (s.reported new) list) (sym same.cut) in (
      record {
        past_noted = subst (λ n. n ≤ length noted) (sym same.base) of.past_noted;
        past_is = subst (λ n. s.stands new (take n noted)) (sym same.base)
            (same.stands (take (s.base old) noted) of.past_is);
        next = subst (λ (list : List Entry). EqualsPrefix noted list) next of.next;
        begins = subst (λ (list : List Entry). EqualsPrefix noted list) history of.begins;
      },
      history,
    )

-- where nothing is done its logs are as they were
still_logs : {R : Type 0} (s : Saving R) (old new : R) → new ≡ old → HasSameLogs s old new
still_logs s old new same = record {
  owner = ap s.owner same;
  base = ap s.base same;
  reported = ap s.reported same;
  cut = ap s.cut same;
  stands = λ past is. subst (λ r. s.stands r past) (sym same) is;
}

pub begin_logs : {R : Type 0} (s : Saving R) → AdvanceLaws s → (old new : R) (packets : List (ℕ × EpochPacket)) →
    MayBegin s old packets new → BeginsEpoch s old new ⊎ HasSameLogs s old new
begin_logs s laws old new packets (inl (none, same)) = inr (still_logs s old new same)
begin_logs s laws old new packets (inr begins) = inl (laws.begun old new packets begins).0

pub prepare_logs : {R : Type 0} (s : Saving R) → AdvanceLaws s → (old new : R) → MayPrepare s old new →
    HasSameLogs s old new
prepare_logs s laws old new (inl same) = still_logs s old new same
prepare_logs s laws old new (inr prepares) = (laws.prepared old new prepares).0

pub entered_owner : {R : Type 0} (s : Saving R) (old new : R) → BeginsEpoch s old new ⊎ HasSameLogs s old new →
    s.owner new ≡ s.owner old
entered_owner s old new (inl b) = b.owner
entered_owner s old new (inr same) = same.owner

-- whether it began an epoch or not, after all that it had committed is noted
pub entered_noted : {R : Type 0} (s : Saving R) (old new : R) (noted : List Entry) →
    BeginsEpoch s old new ⊎ HasSameLogs s old new → IsNoted s old noted →
    IsPrefix (replica_history s old noted) noted →
    IsNoted s new noted × (replica_history s old noted ≡ replica_history s new noted)
entered_noted s old new noted (inl b) of p = begins_noted s old new noted b of p
entered_noted s old new noted (inr same) of p = same_noted s old new noted same of

-- Where all that it had committed is published, the logs of its past are, whether it began an epoch or not.
pub entered_reached : {R : Type 0} (s : Saving R) (old new : R) (noted shown : List Entry) →
    BeginsEpoch s old new ⊎ HasSameLogs s old new → IsNoted s old noted → s.base old ≤ length shown →
    shown ≡ replica_history s old noted → s.base new ≤ length shown
entered_reached s old new noted shown (inl b) of few all =
    omega (
      arith,
      b.base,
      ap length all,
      length_followed (s.base old) noted (after_base s old) of.past_noted,
      length-append (s.reported old) (s.cut old),
    )
entered_reached s old new noted shown (inr same) of few all = subst (λ n. n ≤ length shown) (sym same.base) few
