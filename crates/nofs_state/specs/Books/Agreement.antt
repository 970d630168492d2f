-- What a look makes known of inodes, beside what it answers.
use Rattle.std.specs.Prelude.{Bool, List, Option}
use Rattle.nofs_state.specs.declared.books.maps.Books.{Books}

-- the books with something else known of which inodes are agreed
abbrev pub with_agreement : Books → List (Option Bool) → Books
with_agreement k known = record k { agreement = known }
