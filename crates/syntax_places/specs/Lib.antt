pub mod SyntaxPlaces
