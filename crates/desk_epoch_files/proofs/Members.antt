-- What is known of a node that is started over its first file.
use Rattle.std.proofs.Common.{◌≡◌, ◌∙◌, sym, refl, inl, inr, ℕ, Option, Some, None, Result, Ok, Err, subst}
use Rattle.std.specs.Prelude.{IfOk, IfErr, IfSome, OnOk, OnErr, unwrap_or}
use Rattle.sqlite_trees.specs.declared.store.Store.{Ghosts}
use Rattle.sqlite.specs.State.{HasCleanDisk}
use Rattle.sqlite.specs.Held.{Held, state}
use Rattle.desk_epoch_files.specs.declared.cause.Cause.{Cause}
use Rattle.desk_epoch_files.specs.declared.member_row.MemberRow.{MemberRow}
use Rattle.desk_epoch_files.specs.Causes.{BlamesMember}
use Rattle.desk_epoch_files.specs.Members.{IsAskedFor, IsStartedOtherwise, Preserves, PreservesNone, ShowsMember}
use Rattle.desk_epoch_files.specs.Members.{StartsWith, asked_row, default_row}

-- a row is that of its token and its places
pub same_row : (row : MemberRow) (token places : ℕ) → token ≡ row.token → row.places ≡ places →
    row ≡ record { token = token; places = places }
same_row row token places same many = subst (λ p. row ≡ record { token = token; places = p }) many
    (subst (λ t. row ≡ record { token = t; places = row.places }) (sym same) refl)

-- rows of one token and as many places are one
pub equal_rows : (a b : MemberRow) → a.token ≡ b.token → a.places ≡ b.places → a ≡ b
equal_rows a b same many = same_row a b.token b.places (sym same) many

-- a start over a file that preserves a row has its token
pub starts_on : {S : Type 0} (g : Ghosts S) (given : Option ℕ) (places : ℕ) (found read : Held S) (row : MemberRow) →
    (HasCleanDisk (state g read) → Preserves g found read row) → (r : Result ℕ Cause) →
    IfOk r (λ token. (token ≡ row.token) × IsAskedFor row given places) → IfOk r (StartsWith g given places found)
starts_on g given places found read row preserves (Ok token) asked =
    let it = subst (λ (x : MemberRow). HasCleanDisk (state g read) → Preserves g found read x)
    (same_row row token places asked.0 asked.1.0) preserves in
    record {
      read = read;
      preserved = λ clean. inl (it clean);
      last = read;
      stands = λ other clean. elim (it clean) [
        | inl shows ↦ (found, shows)
        | inr without ↦ absurd (other without.0)
      ];
    }
starts_on g given places found read row preserves (Err cause) asked = tt

-- a start over one that preserves none has the token that is named, or 0
pub new_on : {S : Type 0} (g : Ghosts S) (given : Option ℕ) (places : ℕ) (found read last : Held S) →
    (HasCleanDisk (state g read) → PreservesNone g found) → (r : Result ℕ Cause) →
    IfOk r (λ token. token ≡ unwrap_or given 0) →
    OnOk r (¬ (asked_row given places ≡ default_row) → HasCleanDisk (state g last) → (before : Held S)
    × ShowsMember g before last (asked_row given places)) →
    IfOk r (StartsWith g given places found)
new_on {S = S} g given places found read last none (Ok token) is stands = record {
  read = read;
  preserved = λ clean. inr (none clean, is);
  last = last;
  stands = subst (λ t. ¬ (record { token = t; places = places } ≡ default_row) → HasCleanDisk (state g last) →
      (before : Held S) × ShowsMember g before last (record { token = t; places = places })) (sym is) stands;
}
new_on g given places found read last none (Err cause) is stands = tt

-- a start that a preserved row refuses
pub refused_on_row : {S : Type 0} (g : Ghosts S) (given : Option ℕ) (places : ℕ) (found read : Held S)
    (row : MemberRow) → (HasCleanDisk (state g read) → Preserves g found read row) → (r : Result ℕ Cause) →
    OnErr r (¬ (IsAskedFor row given places)) →
    IfErr r (λ cause. BlamesMember cause → IsStartedOtherwise g given places found)
refused_on_row g given places found read row preserves (Ok token) other = tt
refused_on_row g given places found read row preserves (Err cause) other =
    λ _. (read, λ clean. inr (row, preserves clean, other))

-- a start that nothing preserved refuses
pub refused_new : {S : Type 0} (g : Ghosts S) (given : Option ℕ) (places : ℕ) (found : Held S) (r : Result ℕ Cause) →
    IfErr r (λ cause. ¬ (BlamesMember cause)) →
    IfErr r (λ cause. BlamesMember cause → IsStartedOtherwise g given places found)
refused_new g given places found (Ok token) unblamed = tt
refused_new g given places found (Err cause) unblamed = λ blames. absurd (unblamed blames)

-- the token is the one that is named, where a row is asked for by it
pub given_on : (given : Option ℕ) (row : MemberRow) (places : ℕ) (r : Result ℕ Cause) →
    IfOk r (λ token. (token ≡ row.token) × IsAskedFor row given places) →
    IfSome given (λ named. IfOk r (λ token. token ≡ named))
given_on None row places r asked = tt
given_on (Some named) row places (Ok token) asked = asked.0 ∙ sym asked.1.1
given_on (Some named) row places (Err cause) asked = tt

-- and that of a new node
pub given_new : (given : Option ℕ) (r : Result ℕ Cause) → IfOk r (λ token. token ≡ unwrap_or given 0) →
    IfSome given (λ named. IfOk r (λ token. token ≡ named))
given_new None r is = tt
given_new (Some named) (Ok token) is = is
given_new (Some named) (Err cause) is = tt

-- a token was found over a file of its name
pub started_on : {H : Type 0} (P : H → Type 0) (Q : H → ℕ → Type 0) (found : H) → P found → (r : Result ℕ Cause) →
    IfOk r (Q found) → IfOk r (λ token. (x : H) × P x × Q x token)
started_on P Q found held (Ok token) starts = (found, held, starts)
started_on P Q found held (Err cause) starts = tt
