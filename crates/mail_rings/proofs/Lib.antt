pub mod RingsLemmas
