-- A search over a file: "1, frame, contents of each page whose box meets the query, in order, then 2. Damaged contents of a page that isn't opened
-- aren't reported. Search writes the places of the hits. A count-only search gives the number of hits and never 2." Assumes nothing.
use Rattle.std.specs.Prelude.{ℕ, suc, ◌+◌, cond, List, [], ◌∷◌, ◌++◌, map, length, leb}
use Rattle.answer.specs.Table as table
use Rattle.answer.specs.Refusal.{because}
use Rattle.answer.specs.Outcome.{Out, ok, need, on, in_page}
use Rattle.answer.specs.Rule.{rule}
use Rattle.extent.specs.Boxes.{patterns}
use Rattle.query.specs.declared.ask.Ask.{Ask}
use Rattle.query.specs.Ask.{good_query, hit, opens}
use Rattle.shape.specs.Outline.{Outline, Shape}
use Rattle.frame.specs.Frame.{Page, frame_of}
use Rattle.page.specs.Contents.{contents_of}

-- the places, from n on, of the outlines that are hit
unfoldable pub places_of : Ask → ℕ → List Outline → List ℕ
places_of a n [] = []
places_of a n (o ∷ os) = cond (hit a o.xs o.ys) (n ∷ places_of a (suc n) os) (places_of a (suc n) os)

-- the places, from n on, of the shapes that are hit
unfoldable pub hits_from : Ask → ℕ → List Shape → List ℕ
hits_from a n ss = places_of a n (map (λ (s : Shape). s.outline) ss)

-- the hits of page k, which begins at place n, once it is opened: those of its contents, and a refusal has that page
abbrev pub opened_hits : Ask → ℕ → ℕ → Page → Out (List ℕ)
opened_hits a k n p = on (in_page k (contents_of p.head p.body)) (λ here. ok (hits_from a n here))

-- the hits of page k, which begins at place n: if its stored box meets the query it is opened; else it has none, whatever stands behind its box
unfoldable pub page_hits : Ask → ℕ → ℕ → Page → Out (List ℕ)
page_hits a k n p = cond (opens a p.head.v (patterns p.head.stored)) (opened_hits a k n p) (ok [])

-- the hits of pages in order, the first of which is page k and begins at place n
unfoldable pub met_of : Ask → ℕ → ℕ → List Page → Out (List ℕ)
met_of a k n [] = ok []
met_of a k n (p ∷ ps) =
    on (page_hits a k n p) (λ here.
    on (met_of a (suc k) (n + p.head.g) ps) (λ rest.
    ok (here ++ rest)))

-- the hits of a file: the frame, then its pages
unfoldable pub met_in : Ask → List ℕ → Out (List ℕ)
met_in a s = on (frame_of s) (λ f. met_of a 0 0 f.pages)

-- with a good query
unfoldable pub hits_of : Ask → List ℕ → Out (List ℕ)
hits_of a s = on (rule (good_query a.query) table.query) (λ _. met_in a s)

-- the search, with so much room
unfoldable pub search_of : Ask → List ℕ → ℕ → Out (List ℕ)
search_of a s room = on (hits_of a s) (λ l. need (leb (length l) room) (because table.room) (ok l))

-- the count-only search
unfoldable pub count_of : Ask → List ℕ → Out ℕ
count_of a s = on (hits_of a s) (λ l. ok (length l))
