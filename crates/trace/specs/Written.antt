-- The records of a recording as bytes (02, W1): what is written for a request and for a remark. The reader does not use these definitions; laws
-- hold its reading to them.
use Rattle.std.specs.Prelude.{ℕ, ◌+◌, ◌-◌, ◌≤◌, ◌<◌, ◌≡◌, ◌≢◌, List, [], ◌++◌, length, take, drop}
use Rattle.machine.specs.declared.Request.{Request}
use Rattle.machine.specs.declared.Request.TheVariants.{Access, Key, Prefix}
use Rattle.machine.specs.declared.AccessKind.TheVariants.{Fetch, Store}
use Rattle.machine.specs.declared.KeyInstruction.TheVariants.{Isk, Ssk, Rrb, Iske, Sske, Rrbe}
use Rattle.machine.specs.declared.PrefixInstruction.TheVariants.{SetPrefix, StorePrefix}
use Rattle.house_record.specs.Little.{little_bytes}
use Rattle.house_record.specs.Records.{record_bytes}
use Rattle.trace.specs.Trace.{Read, ARequest, Remark, Bad, End, data_of}

-- processor (1 byte), address (4), length (2)
unfoldable pub access_body : (processor address count : ℕ) → List ℕ
access_body processor address count = little_bytes 1 processor ++ little_bytes 4 address ++ little_bytes 2 count

-- processor, instruction, R1 (4), R2 or address (4)
unfoldable pub key_body : (processor instruction r1 r2 : ℕ) → List ℕ
key_body processor instruction r1 r2 = little_bytes 1 processor ++ little_bytes 1 instruction ++ little_bytes 4 r1 ++ little_bytes 4 r2

-- processor, operation, word (4)
unfoldable pub prefix_body : (processor operation word : ℕ) → List ℕ
prefix_body processor operation word = little_bytes 1 processor ++ little_bytes 1 operation ++ little_bytes 4 word

-- The record that holds a request of a processor. The text is the data of a store. The ignored word is R1 in RRB and RRBE and the word in
-- STORE PREFIX: the record has it, the request has not
unfoldable pub request_bytes : (processor ignored : ℕ) → Request → (text : List ℕ) → List ℕ
request_bytes processor ignored (Access Fetch address count) text = record_bytes 1 (access_body processor address count)
request_bytes processor ignored (Access Store address count) text = record_bytes 2 (access_body processor address count ++ text)
request_bytes processor ignored (Key (Isk r1 r2)) text = record_bytes 3 (key_body processor 0 r1 r2)
request_bytes processor ignored (Key (Ssk r1 r2)) text = record_bytes 3 (key_body processor 1 r1 r2)
request_bytes processor ignored (Key (Rrb address)) text = record_bytes 3 (key_body processor 2 ignored address)
request_bytes processor ignored (Key (Iske r1 r2)) text = record_bytes 3 (key_body processor 3 r1 r2)
request_bytes processor ignored (Key (Sske r1 r2)) text = record_bytes 3 (key_body processor 4 r1 r2)
request_bytes processor ignored (Key (Rrbe r2)) text = record_bytes 3 (key_body processor 5 ignored r2)
request_bytes processor ignored (Prefix (SetPrefix word)) text = record_bytes 4 (prefix_body processor 0 word)
request_bytes processor ignored (Prefix StorePrefix) text = record_bytes 4 (prefix_body processor 1 ignored)

-- the record that holds a remark
unfoldable pub remark_bytes : List ℕ → List ℕ
remark_bytes text = record_bytes 255 text

-- What a record can hold: a processor number of one byte, words of four, the length of an access in two. The length of a store is at most 503,
-- with which the record's length is 512
abbrev pub Word : ℕ → Type 0
Word w = w < 4294967296

abbrev pub Operands : Request → Type 0
Operands (Access Fetch address count) = Word address × (count < 65536)
Operands (Access Store address count) = Word address × (count ≤ 503)
Operands (Key (Isk r1 r2)) = Word r1 × Word r2
Operands (Key (Ssk r1 r2)) = Word r1 × Word r2
Operands (Key (Rrb address)) = Word address
Operands (Key (Iske r1 r2)) = Word r1 × Word r2
Operands (Key (Sske r1 r2)) = Word r1 × Word r2
Operands (Key (Rrbe r2)) = Word r2
Operands (Prefix (SetPrefix word)) = Word word
Operands (Prefix StorePrefix) = Unit

-- a store has exactly as many data bytes as its length says, and another request has none
abbrev pub Data : Request → (text : List ℕ) → Type 0
Data (Access Fetch address count) text = text ≡ []
Data (Access Store address count) text = length text ≡ count
Data (Key k) text = text ≡ []
Data (Prefix i) text = text ≡ []

abbrev pub Holds : (processor ignored : ℕ) → Request → (text : List ℕ) → Type 0
Holds processor ignored r text = (processor < 256) × Word ignored × Operands r × Data r text

-- the size of that record: two bytes more than the length that it states
abbrev pub request_size : Request → ℕ
request_size (Access Fetch address count) = 11
request_size (Access Store address count) = 11 + count
request_size (Key k) = 14
request_size (Prefix i) = 10

-- the data of a request whose record is in front and has this size
abbrev pub text_of : Request → List ℕ → ℕ → List ℕ
text_of (Access Fetch address count) s size = []
text_of (Access Store address count) s size = data_of s size
text_of (Key k) s size = []
text_of (Prefix i) s size = []

-- the text of a remark whose record is in front and has this size
abbrev pub remark_text : List ℕ → ℕ → List ℕ
remark_text s size = take (size - 4) (drop 4 s)

-- a list that begins with a record of this size, which holds this request; anything may follow
pub record RequestInFront (s : List ℕ) (processor : ℕ) (r : Request) (size : ℕ) : Type 0 where
  pub ignored : ℕ
  pub text : List ℕ
  pub rest : List ℕ
  pub holds : Holds processor ignored r text
  pub sized : length (request_bytes processor ignored r text) ≡ size
  pub split : s ≡ request_bytes processor ignored r text ++ rest

-- a list that begins with a record of this size, which holds a remark of up to 256 bytes; anything may follow
pub record RemarkInFront (s : List ℕ) (size : ℕ) : Type 0 where
  pub text : List ℕ
  pub rest : List ℕ
  pub short : length text ≤ 256
  pub sized : length (remark_bytes text) ≡ size
  pub split : s ≡ remark_bytes text ++ rest

-- what a reading says of a list of bytes, without the reader: it begins with that request, with that remark, it is empty, or it is none of these
abbrev pub Says : List ℕ → Read → Type 0
Says s (ARequest processor r size) = RequestInFront s processor r size
Says s (Remark size) = RemarkInFront s size
Says s End = s ≡ []
Says s Bad =
    (s ≢ []) × ((processor : ℕ) (r : Request) (size : ℕ) → ¬ RequestInFront s processor r size) × ((size : ℕ) → ¬ RemarkInFront s size)
