-- What only private steps say, here and in the rings.
pub mod Numbers
