-- The round trips of domains, as the definitions state them. Assumes nothing.
use Prim.Native.Nat.{ℕ}
use native.Mathlib.Omega.{arith}
use mathlib.Core.Path.{◌≡◌, refl, sym, ap, ◌∙◌}
use mathlib.Core.Bool.{Bool, true, false}
use mathlib.Core.List.{List, map}
use lib.Dec.{leb}
use lib.ListN.{length, take}
use lib.Seq.{length-take-le}
use borrow.Author.Tests.{leb-true, le-leb}
use Rattle.bmap.specs.Plain.{flat}
use Rattle.bmap.specs.Limits.{store_size}
use Rattle.bmap.specs.Refusal.{Answer, got, refused, read}
use Rattle.bmap.specs.Domain.{Domain}
use Rattle.bmap.specs.Buffer.{padded}
use Rattle.bmap.specs.Store.{frames_of, stored_of, domain_in, text_of, read_domain, write_domain}
use Rattle.bmap.specs.Theorems.{DomainLinesReturn, DomainReturns}
use Rattle.line.proofs.Lists.{bytes_are}
use Rattle.domain.proofs.RoundTrip.{lines_again, Again, store_again}

-- THEOREM. Accepted lines, read and written again, are the same lines.
pub domain_lines_return : DomainLinesReturn
unfolding read_domain
domain_lines_return lines store text d e h g =
    lines_again lines store text (length (flat (map stored_of (frames_of lines)))) (simp (le-leb store_size (length store) h, e)) g

-- THEOREM. An accepted domain, written and read again, is the same bytes, zeros after.
pub domain_returns : DomainReturns
unfolding write_domain
domain_returns store text new n b e h = by (domain_in store) refl
  where
    kept : (a : Again store text new) → (bytes : List ℕ) × (store ≡ padded (length store) bytes)
        × (read_domain (take n (write_domain store text).buffer) new ≡ record { answer = read (length bytes); buffer = padded (length new) bytes })
    kept a =
        let same : a.characters ≡ n = cc (a.writes, e) in
        let bytes : List ℕ = take a.used store in
        let size : length bytes ≡ a.used = length-take-le a.used store a.within in (
          bytes,
          a.whole,
          ap (λ (k : ℕ). read_domain (take k (write_domain store text).buffer) new) (sym same) ∙ a.reads
              ∙ ap (λ (k : ℕ). record { answer = read k; buffer = padded (length new) bytes }) (sym size),
        )

    room : (d : Domain) → domain_in store ≡ got d → (t : Bool) → leb (length (text_of store)) (length text) ≡ t → (bytes : List ℕ) × (store ≡ padded (length store) bytes)
        × (read_domain (take n (write_domain store text).buffer) new ≡ record { answer = read (length bytes); buffer = padded (length new) bytes })
    room d q true t = kept (store_again store text new d (bytes_are store b) q (leb-true _ _ t) h)
    room d q false t = absurd (let x : refused 10 ≡ got n = simp (q, t) at e in let z : ◌≡◌ {A = ℕ} 0 1 = cc in omega arith)

    by : (r : Answer Domain) → domain_in store ≡ r → (bytes : List ℕ) × (store ≡ padded (length store) bytes)
        × (read_domain (take n (write_domain store text).buffer) new ≡ record { answer = read (length bytes); buffer = padded (length new) bytes })
    by (refused m) q = absurd (let x : refused m ≡ got n = simp q at e in let z : ◌≡◌ {A = ℕ} 0 1 = cc in omega arith)
    by (got d) q = room d q (leb (length (text_of store)) (length text)) refl
