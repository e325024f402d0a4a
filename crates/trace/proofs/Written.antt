-- What is written is read. A record of a kind with a body is read by its kind and its body, and the fields of a body are read where they were
-- written; one line then holds each request to its record, whatever follows the record. Assumes nothing.
use Prim.Native.Nat.{ℕ, ◌+◌, ◌-◌, ◌≤◌, ◌<◌}
use native.Mathlib.Omega.{arith}
use mathlib.Core.Path.{◌≡◌, refl, sym, ap, ◌∙◌}
use mathlib.Core.List.{List, [], ◌++◌}
use mathlib.Core.Option.{some}
use lib.ListN.{length, get_elem?}
use lib.Seq.{take_at}
use borrow.Author.Tests.{le-leb}
use Rattle.machine.specs.declared.Request.{Request}
use Rattle.machine.specs.declared.Request.TheVariants.{Access, Key, Prefix}
use Rattle.machine.specs.declared.AccessKind.TheVariants.{Fetch, Store}
use Rattle.machine.specs.declared.KeyInstruction.TheVariants.{Isk, Ssk, Rrb, Iske, Sske, Rrbe}
use Rattle.machine.specs.declared.PrefixInstruction.TheVariants.{SetPrefix, StorePrefix}
use Rattle.house_record.specs.Little.{little, little_bytes}
use Rattle.house_record.specs.Records.{record_bytes}
use Rattle.house_record.proofs.LittleBytes.{little-written, little-written_at}
use Rattle.house_record.proofs.RecordBytes.{length-record_bytes, found_record, body_of_record}
use Rattle.trace.proofs.Bodies.{stored, key_case, prefix_case, remarked}
use Rattle.trace.specs.Trace.{ARequest, Remark, fetch_in, key_requests, prefix_requests, kind_read, record_read, read_of}
use Rattle.trace.specs.Written.{access_body, key_body, prefix_body, request_bytes, remark_bytes, Word, Data, Holds, request_size, text_of}

pub record_is_read : (kind : ℕ) (body rest : List ℕ) → kind < 65536 → length body ≤ 510 → read_of (record_bytes kind body ++ rest) ≡ kind_read kind body
unfolding read_of record_read
record_is_read kind body rest k h =
    let n : 2 + length body - 2 ≡ length body = omega arith in
    rw (found_record kind body rest (omega arith) k, le-leb (2 + length body) 512 (omega arith), n, body_of_record kind body rest)

-- The fields of each body are read, and the request that they make.
module _ (p : ℕ) (hp : p < 256) (rest : List ℕ) where
  module _ (address count : ℕ) (ha : Word address) (hc : count < 65536) (text : List ℕ) where
    access_fields : (little 1 (access_body p address count ++ text) 0 ≡ p) × (little 4 (access_body p address count ++ text) 1 ≡ address)
        × (little 2 (access_body p address count ++ text) 5 ≡ count)
    unfolding access_body little_bytes
    access_fields = (
      little-written 1 p (little_bytes 4 address ++ little_bytes 2 count ++ text) hp,
      little-written_at 4 address (little_bytes 1 p) (little_bytes 2 count ++ text) ha,
      little-written_at 2 count (little_bytes 1 p ++ little_bytes 4 address) text hc,
    )

    length_access : length (access_body p address count ++ text) ≡ 7 + length text
    unfolding access_body little_bytes
    length_access = omega arith

    fetch_is_read : text ≡ [] → read_of (record_bytes 1 (access_body p address count) ++ rest) ≡ ARequest p (Access Fetch address count) 11
    unfolding kind_read fetch_in access_body little_bytes
    fetch_is_read e =
        let (a, b, c) = rw e at access_fields in
        record_is_read 1 (access_body p address count) rest (omega arith) (omega arith) ∙ rw (a, b, c)

    store_is_read : count ≤ 503 → length text ≡ count
        → read_of (record_bytes 2 (access_body p address count ++ text) ++ rest) ≡ ARequest p (Access Store address count) (11 + count)
    unfolding kind_read
    store_is_read most e =
        let (a, b, c) = access_fields in
        let body : List ℕ = access_body p address count ++ text in
        let long : length body ≡ 7 + count = length_access ∙ ap (λ (n : ℕ). 7 + n) e in
        let size : 4 + (7 + count) ≡ 11 + count = omega arith in
        record_is_read 2 body rest (omega arith) (omega arith) ∙ sym (stored body count (sym c) address (sym b) long) ∙ rw (a, long, size)

  -- an instruction and an operation are told by their numbers
  module _ (i : ℕ) (hi : i < 256) where
    key_is_read : (r1 r2 : ℕ) → Word r1 → Word r2 → (r : Request) → get_elem? (key_requests r1 r2) i ≡ some r
        → read_of (record_bytes 3 (key_body p i r1 r2) ++ rest) ≡ ARequest p r 14
    unfolding kind_read key_body little_bytes
    key_is_read r1 r2 h1 h2 r e =
        let b : List ℕ = key_body p i r1 r2 in
        let processor : little 1 b 0 ≡ p = little-written 1 p (little_bytes 1 i ++ little_bytes 4 r1 ++ little_bytes 4 r2) hp in
        let number : little 1 b 1 ≡ i = little-written_at 1 i (little_bytes 1 p) (little_bytes 4 r1 ++ little_bytes 4 r2) hi in
        let first : little 4 b 2 ≡ r1 = little-written_at 4 r1 (little_bytes 1 p ++ little_bytes 1 i) (little_bytes 4 r2) h1 in
        let second : little 4 b 6 ≡ r2 = little-written_at 4 r2 (little_bytes 1 p ++ little_bytes 1 i ++ little_bytes 4 r1) [] h2 in
        let told : get_elem? (key_requests (little 4 b 2) (little 4 b 6)) i ≡ some r =
        ap (λ (x : ℕ). get_elem? (key_requests x (little 4 b 6)) i) first ∙ ap (λ (x : ℕ). get_elem? (key_requests r1 x) i) second ∙ e
        in
        record_is_read 3 b rest (omega arith) (omega arith) ∙ sym (key_case b i r told number refl) ∙ rw processor

    prefix_is_read : (word : ℕ) → Word word → (r : Request) → get_elem? (prefix_requests word) i ≡ some r
        → read_of (record_bytes 4 (prefix_body p i word) ++ rest) ≡ ARequest p r 10
    unfolding kind_read prefix_body little_bytes
    prefix_is_read word hw r e =
        let b : List ℕ = prefix_body p i word in
        let processor : little 1 b 0 ≡ p = little-written 1 p (little_bytes 1 i ++ little_bytes 4 word) hp in
        let number : little 1 b 1 ≡ i = little-written_at 1 i (little_bytes 1 p) (little_bytes 4 word) hi in
        let value : little 4 b 2 ≡ word = little-written_at 4 word (little_bytes 1 p ++ little_bytes 1 i) [] hw in
        let told : get_elem? (prefix_requests (little 4 b 2)) i ≡ some r = ap (λ (x : ℕ). get_elem? (prefix_requests x) i) value ∙ e in
        record_is_read 4 b rest (omega arith) (omega arith) ∙ sym (prefix_case b i r told number refl) ∙ rw processor

-- The record that holds a request is read as that request, and its size is that of the record.
pub length-request_bytes : (p w : ℕ) (r : Request) (text : List ℕ) → Data r text → length (request_bytes p w r text) ≡ request_size r
unfolding request_bytes record_bytes access_body key_body prefix_body little_bytes
length-request_bytes p w (Access Fetch address count) text e = refl
length-request_bytes p w (Access Store address count) text e = omega arith
length-request_bytes p w (Key (Isk r1 r2)) text e = refl
length-request_bytes p w (Key (Ssk r1 r2)) text e = refl
length-request_bytes p w (Key (Rrb address)) text e = refl
length-request_bytes p w (Key (Iske r1 r2)) text e = refl
length-request_bytes p w (Key (Sske r1 r2)) text e = refl
length-request_bytes p w (Key (Rrbe r2)) text e = refl
length-request_bytes p w (Prefix (SetPrefix word)) text e = refl
length-request_bytes p w (Prefix StorePrefix) text e = refl

with_size : (p w : ℕ) (r : Request) (text rest : List ℕ) → Holds p w r text → read_of (request_bytes p w r text ++ rest) ≡ ARequest p r (request_size r)
unfolding request_bytes
with_size p w (Access Fetch address count) text rest (hp, hw, (ha, hc), e) = fetch_is_read p hp rest address count ha hc text e
with_size p w (Access Store address count) text rest (hp, hw, (ha, hc), e) = store_is_read p hp rest address count ha (omega arith) text hc e
with_size p w (Key (Isk r1 r2)) text rest (hp, hw, (h1, h2), e) = key_is_read p hp rest 0 (omega arith) r1 r2 h1 h2 (Key (Isk r1 r2)) refl
with_size p w (Key (Ssk r1 r2)) text rest (hp, hw, (h1, h2), e) = key_is_read p hp rest 1 (omega arith) r1 r2 h1 h2 (Key (Ssk r1 r2)) refl
with_size p w (Key (Rrb address)) text rest (hp, hw, ha, e) = key_is_read p hp rest 2 (omega arith) w address hw ha (Key (Rrb address)) refl
with_size p w (Key (Iske r1 r2)) text rest (hp, hw, (h1, h2), e) = key_is_read p hp rest 3 (omega arith) r1 r2 h1 h2 (Key (Iske r1 r2)) refl
with_size p w (Key (Sske r1 r2)) text rest (hp, hw, (h1, h2), e) = key_is_read p hp rest 4 (omega arith) r1 r2 h1 h2 (Key (Sske r1 r2)) refl
with_size p w (Key (Rrbe r2)) text rest (hp, hw, h2, e) = key_is_read p hp rest 5 (omega arith) w r2 hw h2 (Key (Rrbe r2)) refl
with_size p w (Prefix (SetPrefix word)) text rest (hp, hw, h, e) = prefix_is_read p hp rest 0 (omega arith) word h (Prefix (SetPrefix word)) refl
with_size p w (Prefix StorePrefix) text rest (hp, hw, h, e) = prefix_is_read p hp rest 1 (omega arith) w hw (Prefix StorePrefix) refl

pub written_is_read : (p w : ℕ) (r : Request) (text rest : List ℕ) → Holds p w r text
    → read_of (request_bytes p w r text ++ rest) ≡ ARequest p r (length (request_bytes p w r text))
written_is_read p w r text rest h = rw (length-request_bytes p w r text h.3) (with_size p w r text rest h)

-- and its data are those of the record
pub written_data : (p w : ℕ) (r : Request) (text rest : List ℕ) → Data r text
    → text_of r (request_bytes p w r text ++ rest) (length (request_bytes p w r text)) ≡ text
unfolding request_bytes record_bytes access_body little_bytes
written_data p w (Access Fetch address count) text rest e = sym e
written_data p w (Access Store address count) text rest e =
    take_at text rest (length (request_bytes p w (Access Store address count) text) - 11) (omega arith)
written_data p w (Key k) text rest e = sym e
written_data p w (Prefix i) text rest e = sym e

-- A remark is read as a remark.
pub length-remark_bytes : (text : List ℕ) → length (remark_bytes text) ≡ 4 + length text
unfolding remark_bytes
length-remark_bytes text = length-record_bytes 255 text

pub remark_is_read : (text rest : List ℕ) → length text ≤ 256 → read_of (remark_bytes text ++ rest) ≡ Remark (4 + length text)
unfolding remark_bytes kind_read
remark_is_read text rest h = record_is_read 255 text rest (omega arith) (omega arith) ∙ sym (remarked text h)
