-- The records of a recording, in 02's order and words (W1): what stands in front of a list of bytes.
use Rattle.std.specs.Prelude.{ℕ, ◌+◌, ◌-◌, cond, List, [], ◌∷◌, length, take, drop, eqb, leb, Result, Ok, Err}
use Rattle.std.proofs.Math.Option.{Option, none, some}
use Rattle.std.proofs.Math.ListN.{get_elem?}
use Rattle.machine.specs.declared.Request.{Request}
use Rattle.machine.specs.declared.Request.TheVariants.{Access, Key, Prefix}
use Rattle.machine.specs.declared.AccessKind.{AccessKind}
use Rattle.machine.specs.declared.AccessKind.TheVariants.{Fetch, Store}
use Rattle.machine.specs.declared.KeyInstruction.TheVariants.{Isk, Ssk, Rrb, Iske, Sske, Rrbe}
use Rattle.machine.specs.declared.PrefixInstruction.TheVariants.{SetPrefix, StorePrefix}
use Rattle.house_record.specs.declared.NoRecord.{NoRecord}
use Rattle.house_record.specs.declared.NoRecord.TheVariants as absent
use Rattle.house_record.specs.Little.{little}
use Rattle.house_record.specs.Records.{Found, Short, End as AtEnd, found}
use Rattle.trace.specs.declared.Item.{Item}
use Rattle.trace.specs.declared.Item.TheVariants as item
use Rattle.trace.specs.declared.NoItem.{NoItem}
use Rattle.trace.specs.declared.NoItem.TheVariants as none_such
use Rattle.trace.specs.declared.Kind.{Kind}
use Rattle.trace.specs.declared.Kind.TheVariants as kinds

-- what stands in front: a request of a processor, a remark, a bad record or the end
abbrev pub Read : Type 0
Read = Result Item NoItem

pattern abbrev pub ARequest : (processor : ℕ) → Request → (size : ℕ) → Read
ARequest processor r size = Ok (item.Request processor r size)

pattern abbrev pub Remark : (size : ℕ) → Read
Remark size = Ok (item.Remark size)

pattern abbrev pub Bad : Read
Bad = Err none_such.Bad

pattern abbrev pub End : Read
End = Err none_such.End

-- the size of the record
abbrev pub size_of : Item → ℕ
size_of (item.Request processor r size) = size
size_of (item.Remark size) = size

-- where the house record in front is not there whole
abbrev pub no_item : NoRecord → NoItem
no_item absent.Short = none_such.Bad
no_item absent.End = none_such.End

-- A record that is there whole, by its body, which is what follows the kind. In each of the four request kinds the processor comes first.
-- The size is that of the whole record
abbrev pub request_in : List ℕ → Request → Read
request_in body r = ARequest (little 1 body 0) r (4 + length body)

-- what is read where a request was made of the body, or none
abbrev pub requested : List ℕ → Result Request NoItem → Read
requested body (Ok r) = request_in body r
requested body (Err e) = Err e

-- kind 1, fetch: processor (1 byte), address (4), length (2)
unfoldable pub fetch_in : List ℕ → Read
fetch_in body = cond (eqb (length body) 7) (request_in body (Access Fetch (little 4 body 1) (little 2 body 5))) Bad

-- kind 2, store: the same, then exactly that many data bytes
unfoldable pub store_in : List ℕ → Read
store_in body =
    cond (eqb (length body) (7 + little 2 body 5)) (request_in body (Access Store (little 4 body 1) (little 2 body 5))) Bad

abbrev pub access_in : AccessKind → List ℕ → Read
access_in Fetch body = fetch_in body
access_in Store body = store_in body

-- the requests that a byte tells apart: any other byte is bad
abbrev pub one_of : List ℕ → Option Request → Read
one_of body none = Bad
one_of body (some r) = request_in body r

-- kind 3, key instruction: processor, instruction 0 to 5, R1 (4), R2 or address (4)
abbrev pub key_requests : (r1 r2 : ℕ) → List Request
key_requests r1 r2 =
    Key (Isk r1 r2) ∷ Key (Ssk r1 r2) ∷ Key (Rrb r2) ∷ Key (Iske r1 r2) ∷ Key (Sske r1 r2) ∷ Key (Rrbe r2) ∷ []

unfoldable pub key_in : List ℕ → Read
key_in body =
    cond (eqb (length body) 10) (one_of body (get_elem? (key_requests (little 4 body 2) (little 4 body 6)) (little 1 body 1))) Bad

-- kind 4: processor, 0 set or 1 store, word (4)
abbrev pub prefix_requests : (word : ℕ) → List Request
prefix_requests word = Prefix (SetPrefix word) ∷ Prefix StorePrefix ∷ []

unfoldable pub prefix_in : List ℕ → Read
prefix_in body = cond (eqb (length body) 6) (one_of body (get_elem? (prefix_requests (little 4 body 2)) (little 1 body 1))) Bad

-- kind 255, a remark of up to 256 bytes
unfoldable pub remark_in : List ℕ → Read
remark_in body = cond (leb (length body) 256) (Remark (4 + length body)) Bad

-- the kinds by number
abbrev pub kind_of : ℕ → Result Kind NoItem
kind_of n =
    cond (eqb n 1) (Ok (kinds.Access Fetch))
    (cond (eqb n 2) (Ok (kinds.Access Store))
    (cond (eqb n 3) (Ok kinds.Key)
    (cond (eqb n 4) (Ok kinds.Prefix)
    (cond (eqb n 255) (Ok kinds.Remark) (Err none_such.Bad)))))

-- what a record of a kind with a body is read as: any other kind is bad
unfoldable pub kind_read : ℕ → List ℕ → Read
kind_read kind body =
    cond (eqb kind 1) (fetch_in body)
    (cond (eqb kind 2) (store_in body)
    (cond (eqb kind 3) (key_in body)
    (cond (eqb kind 4) (prefix_in body)
    (cond (eqb kind 255) (remark_in body) Bad))))

-- the house record in front. A length over 512 is bad, and so are a length of 0 or 1 and a record cut short
unfoldable pub record_read : Found → List ℕ → Read
record_read AtEnd s = End
record_read Short s = Bad
record_read (Ok header) s = cond (leb header.length 512) (kind_read header.kind (take (header.length - 2) (drop 4 s))) Bad

unfoldable pub read_of : List ℕ → Read
read_of s = record_read (found s 0) s

-- the data bytes of a store, which is the record in front and has this size
abbrev pub data_of : List ℕ → ℕ → List ℕ
data_of s size = take (size - 11) (drop 11 s)
