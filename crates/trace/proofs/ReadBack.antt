-- What is read was written, so that a reading says exactly what the bytes are. A body that has the length of its kind is the fields that are
-- read from it, one after the other; so the record in front is the one that holds the request. Assumes nothing.
use Prim.Native.Nat.{ℕ, zero, suc, ◌+◌, ◌-◌, ◌≤◌}
use native.Mathlib.Nat.{zero-add, suc-add}
use native.Mathlib.Omega.{arith}
use mathlib.Core.Path.{◌≡◌, refl, sym, ap, subst, ◌∙◌}
use mathlib.Core.Logic.{◌↔◌}
use mathlib.Core.List.{List, [], ◌∷◌, ◌++◌}
use mathlib.Core.Option.{some}
use lib.ListN.{length, get_elem?, take, drop, length-drop, drop_of_length-le}
use lib.Seq.{take-nil, drop-drop, drop-append_seam}
use Rattle.machine.specs.declared.Request.{Request}
use Rattle.machine.specs.declared.Request.TheVariants.{Access}
use Rattle.machine.specs.declared.AccessKind.TheVariants.{Fetch, Store}
use Rattle.house_record.specs.Little.{little, little_bytes}
use Rattle.house_record.specs.Records.{record_bytes}
use Rattle.house_record.proofs.Finding.{whole}
use Rattle.house_record.proofs.LittleBytes.{Bytes, bytes_take, bytes_drop, little_bound, little_next}
use Rattle.house_record.proofs.RecordBytes.{length-record_bytes, found_was_written}
use Rattle.trace.specs.Trace.{Read, ARequest, Remark, Bad, End, request_in, key_requests, prefix_requests, read_of, data_of}
use Rattle.trace.specs.Written.{access_body, key_body, prefix_body, request_bytes, remark_bytes}
use Rattle.trace.specs.Written.{Word, Operands, Data, Holds, text_of, remark_text, RequestInFront, RemarkInFront, Says}
use Rattle.trace.proofs.Front.{Fits, body_in, ARecord, by_front, by_kind, looked_up, stated_length, field_in_front, size_of_request, nothing_is_end}
use Rattle.trace.proofs.Written.{length-request_bytes, written_is_read, written_data, length-remark_bytes, remark_is_read}

-- A body is its fields, one after the other.
module _ (b : List ℕ) (bytes : Bytes b) where
  next : (n at : ℕ) → at + n ≤ length b → drop at b ≡ little_bytes n (little n b at) ++ drop (at + n) b
  next = little_next b bytes

  ends : (n : ℕ) → length b ≡ n → drop n b ≡ []
  ends n e = drop_of_length-le b {i = n} (omega arith)

  abbrev field : (n at : ℕ) → List ℕ → List ℕ
  field n at t = little_bytes n (little n b at) ++ t

  access_again : 7 ≤ length b → b ≡ access_body (little 1 b 0) (little 4 b 1) (little 2 b 5) ++ drop 7 b
  unfolding access_body little_bytes
  access_again h = next 1 0 (omega arith) ∙ ap (field 1 0) (next 4 1 (omega arith) ∙ ap (field 4 1) (next 2 5 (omega arith)))

  fetch_again : length b ≡ 7 → b ≡ access_body (little 1 b 0) (little 4 b 1) (little 2 b 5)
  unfolding access_body little_bytes
  fetch_again e = access_again (omega arith) ∙ ap (λ (t : List ℕ). access_body (little 1 b 0) (little 4 b 1) (little 2 b 5) ++ t) (ends 7 e)

  key_again : length b ≡ 10 → b ≡ key_body (little 1 b 0) (little 1 b 1) (little 4 b 2) (little 4 b 6)
  unfolding key_body little_bytes
  key_again e =
      next 1 0 (omega arith) ∙ ap (field 1 0) (next 1 1 (omega arith) ∙ ap (field 1 1) (next 4 2 (omega arith)
      ∙ ap (field 4 2) (next 4 6 (omega arith) ∙ ap (field 4 6) (ends 10 e))))

  prefix_again : length b ≡ 6 → b ≡ prefix_body (little 1 b 0) (little 1 b 1) (little 4 b 2)
  unfolding prefix_body little_bytes
  prefix_again e =
      next 1 0 (omega arith) ∙ ap (field 1 0) (next 1 1 (omega arith) ∙ ap (field 1 1) (next 4 2 (omega arith) ∙ ap (field 4 2) (ends 6 e)))

drop-take : (n m : ℕ) (l : List ℕ) → drop n (take (n + m) l) ≡ take m (drop n l)
drop-take zero m l = rw (zero-add m)
drop-take (suc n) m [] = rw (suc-add n m, take-nil {A = ℕ} m)
drop-take (suc n) m (x ∷ xs) = rw (suc-add n m) (drop-take n m xs)

-- The record in front of bytes, where one fits.
module _ (s : List ℕ) (bytes : Bytes s) where
  -- what is shown of each reading
  abbrev Was : Read → Type 0
  Was (ARequest p r size) =
      Holds p (little 4 s 6) r (text_of r s size) × (s ≡ request_bytes p (little 4 s 6) r (text_of r s size) ++ drop size s)
  Was (Remark size) =
      (length (remark_text s size) ≤ 256) × (length (remark_bytes (remark_text s size)) ≡ size) × (s ≡ remark_bytes (remark_text s size) ++ drop size s)
  Was Bad = Unit
  Was End = s ≡ []

  module _ (fits : Fits s) where
    abbrev b : List ℕ
    b = body_in s

    body_bytes : Bytes b
    body_bytes = bytes_take (little 2 s 0 - 2) (drop 4 s) (bytes_drop 4 s bytes)

    framed : s ≡ record_bytes (little 2 s 2) b ++ drop (4 + length b) s
    framed =
        let n : 4 + length b ≡ 2 + little 2 s 0 = omega (arith, stated_length s fits) in
        rw n (found_was_written s bytes (little 2 s 0) (little 2 s 2) (sym (whole s 0 (omega (arith, fits)) fits.0 (omega (arith, fits)))))

    -- the word that some requests ignore
    ignored_word : 6 ≤ length b → little 4 b 2 ≡ little 4 s 6
    ignored_word h = field_in_front s fits 4 2 (omega arith)

    -- the record of a request is the one in front
    abbrev Held : Request → Type 0
    Held r =
        Operands r × Data r (text_of r s (4 + length b))
        × (record_bytes (little 2 s 2) b ≡ request_bytes (little 1 b 0) (little 4 s 6) r (text_of r s (4 + length b)))

    held : (r : Request) → Held r → Was (request_in b r)
    held r (o, d, e) =
        ((little_bound b body_bytes 1 0, little_bound s bytes 4 6, o, d), framed ∙ ap (λ (t : List ℕ). t ++ drop (4 + length b) s) e)

    word : (at : ℕ) → Word (little 4 b at)
    word at = little_bound b body_bytes 4 at

    fetch : little 2 s 2 ≡ 1 → length b ≡ 7 → Held (Access Fetch (little 4 b 1) (little 2 b 5))
    unfolding request_bytes
    fetch k e = ((word 1, little_bound b body_bytes 2 5), refl, rw k (ap (record_bytes 1) (fetch_again b body_bytes e)))

    data_of_store : 7 ≤ length b → drop 7 b ≡ data_of s (4 + length b)
    data_of_store h =
        let c : ℕ = 4 + length b - 11 in
        let n : little 2 s 0 - 2 ≡ 7 + c = omega (arith, stated_length s fits) in
        ap (λ (k : ℕ). drop 7 (take k (drop 4 s))) n ∙ drop-take 7 c (drop 4 s) ∙ ap (take c) (drop-drop 7 4 s)

    store : little 2 s 2 ≡ 2 → length b ≡ 7 + little 2 b 5 → Held (Access Store (little 4 b 1) (little 2 b 5))
    unfolding request_bytes
    store k e =
        let moved : drop 7 b ≡ data_of s (4 + length b) = data_of_store (omega arith) in
        let long : length (data_of s (4 + length b)) ≡ little 2 b 5 = rw (← moved, length-drop 7 b) (omega arith) in
        let fields : List ℕ → List ℕ = λ t. access_body (little 1 b 0) (little 4 b 1) (little 2 b 5) ++ t in
        ((word 1, omega (arith, stated_length s fits, fits)), long, rw k (ap (record_bytes 2) (access_again b body_bytes (omega arith) ∙ ap fields moved)))

    -- a request that is told by its number
    abbrev Told : (kind : ℕ) → (ℕ → List ℕ) → ℕ → Request → Type 0
    Told kind body i r =
        Operands r × Data r (text_of r s (4 + length b))
        × (record_bytes kind (body i) ≡ request_bytes (little 1 b 0) (little 4 b 2) r (text_of r s (4 + length b)))

    key_told : (r : Request) → get_elem? (key_requests (little 4 b 2) (little 4 b 6)) (little 1 b 1) ≡ some r
        → Told 3 (λ i. key_body (little 1 b 0) i (little 4 b 2) (little 4 b 6)) (little 1 b 1) r
    unfolding request_bytes
    key_told =
        let both : Word (little 4 b 2) × Word (little 4 b 6) = (word 2, word 6) in
        looked_up (Told 3 (λ i. key_body (little 1 b 0) i (little 4 b 2) (little 4 b 6))) (key_requests (little 4 b 2) (little 4 b 6))
        ((both, refl, refl), ((both, refl, refl), ((word 6, refl, refl), ((both, refl, refl), ((both, refl, refl), ((word 6, refl, refl), tt))))))
        (little 1 b 1)

    key : little 2 s 2 ≡ 3 → length b ≡ 10 → (r : Request) → get_elem? (key_requests (little 4 b 2) (little 4 b 6)) (little 1 b 1) ≡ some r → Held r
    key k e r q =
        let (o, d, f) = key_told r q in
        (o, d, rw (k, ← (ignored_word (omega arith))) (ap (record_bytes 3) (key_again b body_bytes e) ∙ f))

    prefix_told : (r : Request) → get_elem? (prefix_requests (little 4 b 2)) (little 1 b 1) ≡ some r
        → Told 4 (λ i. prefix_body (little 1 b 0) i (little 4 b 2)) (little 1 b 1) r
    unfolding request_bytes
    prefix_told =
        looked_up (Told 4 (λ i. prefix_body (little 1 b 0) i (little 4 b 2))) (prefix_requests (little 4 b 2))
        ((word 2, refl, refl), ((tt, refl, refl), tt)) (little 1 b 1)

    prefix : little 2 s 2 ≡ 4 → length b ≡ 6 → (r : Request) → get_elem? (prefix_requests (little 4 b 2)) (little 1 b 1) ≡ some r → Held r
    prefix k e r q =
        let (o, d, f) = prefix_told r q in
        (o, d, rw (k, ← (ignored_word (omega arith))) (ap (record_bytes 4) (prefix_again b body_bytes e) ∙ f))

    remark : little 2 s 2 ≡ 255 → length b ≤ 256 → Was (Remark (4 + length b))
    unfolding remark_bytes
    remark k e =
        let n : little 2 s 0 - 2 ≡ 4 + length b - 4 = omega (arith, stated_length s fits) in
        let same : b ≡ remark_text s (4 + length b) = ap (λ (m : ℕ). take m (drop 4 s)) n in
        let long : length b ≡ length (remark_text s (4 + length b)) = ap length same in (
          omega arith,
          length-record_bytes 255 (remark_text s (4 + length b)) ∙ ap (λ (m : ℕ). 4 + m) (sym long),
          framed ∙ rw k (ap (λ (t : List ℕ). record_bytes 255 t ++ drop (4 + length b) s) same),
        )

  read_was : Was (read_of s)
  read_was =
      by_front Was s (λ e. e) (λ f. tt)
      (λ f. by_kind Was (little 2 s 2) (body_in s) tt
      (λ k e. held f (Access Fetch (little 4 (body_in s) 1) (little 2 (body_in s) 5)) (fetch f k e))
      (λ k e. held f (Access Store (little 4 (body_in s) 1) (little 2 (body_in s) 5)) (store f k e))
      (λ k e r q. held f r (key f k e r q))
      (λ k e r q. held f r (prefix f k e r q))
      (remark f))

  -- a request that was read is held by the record in front
  pub read_was_written : (p : ℕ) (r : Request) (size : ℕ) → read_of s ≡ ARequest p r size
      → Holds p (little 4 s 6) r (text_of r s size) × (length (request_bytes p (little 4 s 6) r (text_of r s size)) ≡ size)
      × (s ≡ request_bytes p (little 4 s 6) r (text_of r s size) ++ drop size s)
  read_was_written p r size e =
      let (h, split) : Was (ARequest p r size) = rw e at read_was in
      (h, length-request_bytes p (little 4 s 6) r (text_of r s size) h.3 ∙ sym (size_of_request s p r size e), split)

  -- and a remark
  pub remark_was_written : (size : ℕ) → read_of s ≡ Remark size
      → (length (remark_text s size) ≤ 256) × (length (remark_bytes (remark_text s size)) ≡ size) × (s ≡ remark_bytes (remark_text s size) ++ drop size s)
  remark_was_written size e = rw e at read_was

  request_in_front : (p : ℕ) (r : Request) (size : ℕ) → read_of s ≡ ARequest p r size → RequestInFront s p r size
  request_in_front p r size e =
      let (h, long, split) = read_was_written p r size e in
      record { ignored = little 4 s 6; text = text_of r s size; rest = drop size s; holds = h; sized = long; split = split }

  remark_in_front : (size : ℕ) → read_of s ≡ Remark size → RemarkInFront s size
  remark_in_front size e =
      let (h, long, split) = remark_was_written size e in
      record { text = remark_text s size; rest = drop size s; short = h; sized = long; split = split }

-- What a reading says of bytes holds exactly when it is what is read.
module _ (s : List ℕ) where
  request_read : (p : ℕ) (r : Request) (size : ℕ) → RequestInFront s p r size → read_of s ≡ ARequest p r size
  request_read p r size q =
      ap read_of q.split ∙ written_is_read p q.ignored r q.text q.rest q.holds ∙ ap (λ (n : ℕ). ARequest p r n) q.sized

  remark_read : (size : ℕ) → RemarkInFront s size → read_of s ≡ Remark size
  remark_read size q =
      ap read_of q.split ∙ remark_is_read q.text q.rest q.short ∙ ap (λ (n : ℕ). Remark n) (sym (length-remark_bytes q.text) ∙ q.sized)

  module _ (bytes : Bytes s) where
    says : (x : Read) → read_of s ≡ x → Says s x
    says (ARequest p r size) e = request_in_front s bytes p r size e
    says (Remark size) e = remark_in_front s bytes size e
    says End e = rw e at (read_was s bytes)
    says Bad e = (
      λ z. let same : Bad ≡ End = sym e ∙ ap read_of z ∙ nothing_is_end in cc,
      λ p r size q. subst ARecord (sym (request_read p r size q) ∙ e) tt,
      λ size q. subst ARecord (sym (remark_read size q) ∙ e) tt,
    )

    said : (x : Read) → Says s x → read_of s ≡ x
    said (ARequest p r size) q = request_read p r size q
    said (Remark size) q = remark_read size q
    said End e = ap read_of e ∙ nothing_is_end
    said Bad (some_bytes, no_request, no_remark) = go (read_of s) refl
      where
        go : (x : Read) → read_of s ≡ x → x ≡ Bad
        go (ARequest p r size) e = absurd (no_request p r size (says (ARequest p r size) e))
        go (Remark size) e = absurd (no_remark size (says (Remark size) e))
        go Bad e = refl
        go End e = absurd (some_bytes (says End e))

    pub read_exactly : (x : Read) → (read_of s ≡ x) ↔ Says s x
    read_exactly x = (says x, said x)

    -- of bytes exactly one reading is true, and that one is read
    pub exactly_one : Says s (read_of s) × ((x : Read) → Says s x → x ≡ read_of s)
    exactly_one = (says (read_of s) refl, λ x q. sym (said x q))

  -- the data and what follows are told by the size, so that only the ignored word is left open
  module _ (p : ℕ) (r : Request) (size : ℕ) (q : RequestInFront s p r size) where
    abbrev first_record_lem : List ℕ
    first_record_lem = request_bytes p q.ignored r q.text

    pub text_told : q.text ≡ text_of r s size
    text_told =
        sym (written_data p q.ignored r q.text q.rest q.holds.3)
        ∙ ap (λ (t : List ℕ). text_of r t (length first_record_lem)) (sym q.split) ∙ ap (text_of r s) q.sized

    pub rest_told : q.rest ≡ drop size s
    rest_told =
        sym (drop-append_seam first_record_lem q.rest) ∙ ap (drop (length first_record_lem)) (sym q.split) ∙ ap (λ (n : ℕ). drop n s) q.sized
